-- Definitions: what the theorems in `proofs/Theorems` speak of: answers counted from an index, and buffers filled one after the
-- other.
use Prim.Native.Nat.{ℕ, ◌+◌, ◌/◌, ◌≤◌}
use Rattle.std.specs.Prelude.{◌≡◌}
use mathlib.Core.List.{List, [], ◌∷◌, ◌++◌}
use Rattle.run.specs.declared.cursor.Cursor.{Cursor}
use Rattle.run.specs.Run.{Indexed}
use Rattle.run.specs.Cursor.{text_in, filled_by}

-- ---- "index from 0"
abbrev pub CountedFrom : ℕ → List Indexed → Type 0
CountedFrom index [] = Unit {0}
CountedFrom index (a ∷ rest) = (a.index ≡ index) × CountedFrom (index + 1) rest

-- ---- buffers filled one after the other, each of a number of bytes, from a cursor on
unfoldable pub text_of_fills : List ℕ → List ℕ → Cursor → List ℕ
text_of_fills [] s c = []
text_of_fills (bytes ∷ more) s c = text_in (bytes / 16) s c ++ text_of_fills more s (filled_by (bytes / 16) s c).cursor

unfoldable pub cursor_after_fills : List ℕ → List ℕ → Cursor → Cursor
cursor_after_fills [] s c = c
cursor_after_fills (bytes ∷ more) s c = cursor_after_fills more s (filled_by (bytes / 16) s c).cursor

-- how many lines they have room for
abbrev pub lines_in : List ℕ → ℕ
lines_in [] = 0
lines_in (bytes ∷ more) = bytes / 16 + lines_in more

-- each has room for a line at least
abbrev pub RoomInEach : List ℕ → Type 0
RoomInEach [] = Unit {0}
RoomInEach (bytes ∷ more) = (16 ≤ bytes) × RoomInEach more
