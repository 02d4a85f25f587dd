-- For proofs alone: texts put into a buffer one after the other.
use Prim.Native.Nat.{ℕ, suc, ◌+◌, ◌-◌, ◌≤◌}
use native.Mathlib.Nat.{add-zero}
use native.Mathlib.Omega.{arith}
use mathlib.Core.Path.{◌≡◌, refl, sym, ◌∙◌}
use mathlib.Core.List.{List, [], ◌∷◌, ◌++◌, append_assoc}
use lib.ListN.{length, take, drop, set}
use lib.Seq.{sets}
use borrow.Rule.Slice.PartMut.{put_mid}
use Rattle.std.proofs.Common.{length-append, drop-drop}
use Rattle.std.proofs.lemmas.List.Edits.{sets-eq}
use Rattle.text.specs.Text.{Puts}

pub sets_append : (l : List ℕ) (at : ℕ) (a b : List ℕ) → sets l at (a ++ b) ≡ sets (sets l at a) (at + length a) b
sets_append l at [] b = rw add-zero
sets_append l at (x ∷ a) b =
    let place : suc at + length a ≡ at + suc (length a) = omega arith in
    rw (← place) (sets_append (set l at x) (suc at) a b)

pub puts_byte : (l : List ℕ) (at x : ℕ) → Puts l at (x ∷ []) (set l at x) (at + 1)
puts_byte l at x = record { value = refl; out_after = refl }

pub puts_append : {l m n : List ℕ} {at place end : ℕ} (a b : List ℕ) → Puts l at a m place → Puts m place b n end → Puts l at (a ++ b) n end
puts_append {l} {at = at} a b first second =
    record {
      value = omega (arith, length-append a b, first.value, second.value);
      out_after = second.out_after ∙ rw (first.out_after, first.value) (sym (sets_append l at a b));
    }

-- what a copy to a part of the buffer leaves
pub puts_copy : (l : List ℕ) (at : ℕ) (text copied : List ℕ) → at + length text ≤ length l → copied ≡ text
    → Puts l at text (put_mid at (at + length text - at) l copied) (at + length text)
puts_copy l at text copied fits same =
    let count : at + length text - at ≡ length text = omega arith in
    record { value = refl; out_after = rw (sets-eq text l at fits, same, count, drop-drop) (sym (append_assoc (take at l) text (drop (at + length text) l))) }
