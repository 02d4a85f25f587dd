-- Definitions: a byte by its bits, by division and remainder alone. Bit 0 is the lowest, as in the data sheet's register
-- tables.
use Rattle.std.specs.Prelude.{ℕ, ◌+◌, ◌-◌, ◌*◌, ◌/◌, ◌%◌, ◌^◌, Bool, not, ◌&&◌, ◌||◌, eqb}
use Rattle.bits.specs.Choice.{pick}

-- 1 for a condition that holds, else 0
unfoldable pub one_if : Bool → ℕ
one_if condition = pick condition 1 0

-- one of two conditions holds and the other does not
unfoldable pub differs : Bool → Bool → Bool
differs one other = one && not other || not one && other

-- the part of a byte that begins at a place and is so many bits wide: TLR 7:4 is `part_at tlr 4 4`
unfoldable pub part_at : ℕ → ℕ → ℕ → ℕ
part_at byte place width = byte / 2 ^ place % 2 ^ width

-- whether the bit at a place is set: LCR 7 is `bit_at lcr 7`
unfoldable pub bit_at : ℕ → ℕ → Bool
bit_at byte place = eqb (part_at byte place 1) 1

-- a byte put together: the bits of one below a place, and another from that place up to bit 7
unfoldable pub joined_at : ℕ → ℕ → ℕ → ℕ
joined_at low place high = low % 2 ^ place + high % 2 ^ (8 - place) * 2 ^ place

-- a byte that keeps its bits but for a part, which it takes from another
unfoldable pub replaced_at : ℕ → ℕ → ℕ → ℕ → ℕ
replaced_at old new place width =
    old % 2 ^ place + part_at new place width * 2 ^ place + old / 2 ^ (place + width) * 2 ^ (place + width)

-- "the byte is cut to the word length, 5 + LCR 1:0 bits"
unfoldable pub cut_to : ℕ → ℕ → ℕ
cut_to character lcr = character % 2 ^ (5 + part_at lcr 0 2)
