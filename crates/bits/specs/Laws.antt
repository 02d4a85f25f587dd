-- Laws: the laws that join masks and shifts to parts of a byte, each once over the place and the width.
use Rattle.std.specs.Prelude.{ℕ, ◌+◌, ◌-◌, ◌*◌, ◌/◌, ◌%◌, ◌^◌, ◌<◌, ◌≤◌, ◌≡◌, refl, Bool, true, false, leb}
use Rattle.std.proofs.Common.{mod-eq_of_lt, mod-lt, lt_of_lt_of_le, div-one, add-zero, mul_comm, arith, ◌∙◌, pow_pos, pow_mono, pow-add, shr_lt, shr-shr, leb-true, leb-false}
use Rattle.std.proofs.Math.Nat.{mul-mod_left, zero-div, zero-mod, div-eq_of_lt, lt_of_le_of_lt, mod-le, mod-one, add_comm}
use Rattle.std.proofs.Math.Path.{sym, ap}
use Rattle.std.specs.Int.Bits.{bit_and, bit_or, or_shifted_r}
use Rattle.std.proofs.lemmas.Nat.{and_mask, shl-shr, mod-pow-add, shr_le}
use Rattle.std.proofs.Math.Pow.{high, low, field, mod-mod-pow}
use Rattle.std.proofs.Math.Arith.{digits_lt}
use Rattle.bits.specs.Bits.{one_if, part_at, joined_at, replaced_at, cut_to}

-- ---- a condition as a number
pub one_if_in : {n : ℕ} (condition : Bool) → n ≡ one_if condition → n ≤ 1
unfolding one_if
one_if_in true e = omega arith
one_if_in false e = omega arith

pub flag_in : (condition : Bool) → one_if condition ≤ 1
flag_in condition = one_if_in condition refl

-- ---- what stands above a place of a byte
module _ (byte place : ℕ) (fits : byte < 256) where
  nothing_past : 8 ≤ place → byte / 2 ^ place ≡ 0
  nothing_past far = div-eq_of_lt (lt_of_lt_of_le fits (pow_mono far))

  above_fits : byte / 2 ^ place < 2 ^ (8 - place)
  above_fits = go (leb place 8) refl
    where
      go : (within : Bool) → leb place 8 ≡ within → byte / 2 ^ place < 2 ^ (8 - place)
      go true h =
          let near : place ≤ 8 = leb-true place 8 h in
          let whole : 8 - place + place ≡ 8 = omega arith in
          shr_lt (8 - place) place (rw whole fits)
      go false h =
          let far : 8 < place = leb-false place 8 h in
          rw (nothing_past (omega arith)) (pow_pos (8 - place))

-- ---- a part
pub part_in : (byte place width : ℕ) → part_at byte place width < 2 ^ width
unfolding part_at
part_in byte place width = mod-lt (byte / 2 ^ place) (pow_pos width)

pub masked_part : (byte place width : ℕ) → bit_and (byte / 2 ^ place) (2 ^ width - 1) ≡ part_at byte place width
unfolding part_at
masked_part byte place width = and_mask (byte / 2 ^ place) width

pub wide_part : (byte place width : ℕ) → byte < 256 → 8 ≤ width → byte / 2 ^ place ≡ part_at byte place width
unfolding part_at
wide_part byte place width fits wide =
    sym (mod-eq_of_lt (lt_of_le_of_lt (shr_le byte place) (lt_of_lt_of_le fits (pow_mono wide))))

pub no_part_past : (byte place width : ℕ) → byte < 256 → 8 ≤ place → 0 ≡ part_at byte place width
unfolding part_at
no_part_past byte place width fits far = rw (nothing_past byte place fits far) (sym (zero-mod (2 ^ width)))

-- ---- a byte put together
shifted_up : (high place : ℕ) → place < 8 → high * 2 ^ place % 256 ≡ high % 2 ^ (8 - place) * 2 ^ place
shifted_up high place near =
    let whole : 8 - place + place ≡ 8 = omega arith in
    rw whole at (mod-pow-add (high * 2 ^ place) (8 - place) place)
    ∙ rw (shl-shr high place, mul-mod_left high (2 ^ place)) (add-zero (high % 2 ^ (8 - place) * 2 ^ place))

pub or_joined : (low place high : ℕ) → place < 8 → bit_or (bit_and low (2 ^ place - 1)) (high * 2 ^ place % 256) ≡ joined_at low place high
unfolding joined_at
or_joined low place high near =
    rw (and_mask low place, shifted_up high place near)
    (or_shifted_r (high % 2 ^ (8 - place)) place (low % 2 ^ place) (mod-lt low (pow_pos place)) ∙ add_comm (high % 2 ^ (8 - place) * 2 ^ place) (low % 2 ^ place))

pub joined_past : (low place high : ℕ) → low < 256 → 8 ≤ place → low ≡ joined_at low place high
unfolding joined_at
joined_past low place high fits far =
    let none : 8 - place ≡ 0 = omega arith in
    let kept : low % 2 ^ place ≡ low = mod-eq_of_lt (lt_of_lt_of_le fits (pow_mono far)) in
    rw (none, kept, mod-one high) (omega arith)

joined_near : (low place high : ℕ) → place < 8 → joined_at low place high < 256
unfolding joined_at
joined_near low place high near =
    let eight : 8 - place + place ≡ 8 = omega arith in
    let whole : 2 ^ (8 - place) * 2 ^ place ≡ 2 ^ 8 = sym (pow-add 2 (8 - place) place) ∙ ap (λ (k : ℕ). 2 ^ k) eight in
    rw (add_comm (low % 2 ^ place) (high % 2 ^ (8 - place) * 2 ^ place))
    (rw whole at (digits_lt (mod-lt high (pow_pos (8 - place))) (mod-lt low (pow_pos place))))

pub joined_fits : (low place high : ℕ) → low < 256 → joined_at low place high < 256
joined_fits low place high fits = go (leb 8 place) refl
  where
    go : (past : Bool) → leb 8 place ≡ past → joined_at low place high < 256
    go true h = rw (← joined_past low place high fits (leb-true 8 place h)) fits
    go false h = joined_near low place high (leb-false 8 place h)

-- parts that fit their places add up
pub joined_sum : (low place high : ℕ) → low < 2 ^ place → high < 2 ^ (8 - place) → joined_at low place high ≡ low + high * 2 ^ place
unfolding joined_at
joined_sum low place high l h = rw (mod-eq_of_lt l, mod-eq_of_lt h)

-- ---- a replaced part is the new one's, and any other part is the old one's
cut_down : (n place width : ℕ) → n % 2 ^ (place + width) / 2 ^ place ≡ part_at n place width
unfolding part_at
cut_down n place width = rw (add_comm place width) (field n width place)

-- a part below a place goes by what stands below that place
part_below : (n m place width end : ℕ) → place + width ≤ end → n % 2 ^ end ≡ m % 2 ^ end → part_at n place width ≡ part_at m place width
part_below n m place width end near same =
    sym (cut_down n place width)
    ∙ ap (λ (k : ℕ). k / 2 ^ place) (sym (cut_again n) ∙ ap (λ (k : ℕ). k % 2 ^ (place + width)) same ∙ cut_again m)
    ∙ cut_down m place width
  where
    cut_again : (k : ℕ) → k % 2 ^ end % 2 ^ (place + width) ≡ k % 2 ^ (place + width)
    cut_again k =
        let whole : end - (place + width) + (place + width) ≡ end = omega arith in
        rw whole at (mod-mod-pow k (end - (place + width)) (place + width))

-- and one from a place on by what stands from there on
part_above : (n m place width from : ℕ) → from ≤ place → n / 2 ^ from ≡ m / 2 ^ from → part_at n place width ≡ part_at m place width
unfolding part_at
part_above n m place width from far same =
    ap (λ (k : ℕ). k % 2 ^ width) (sym (moved n) ∙ ap (λ (k : ℕ). k / 2 ^ (place - from)) same ∙ moved m)
  where
    moved : (k : ℕ) → k / 2 ^ from / 2 ^ (place - from) ≡ k / 2 ^ place
    moved k =
        let whole : from + (place - from) ≡ place = omega arith in
        rw whole at (shr-shr k from (place - from))

module _ (old new place width : ℕ) where
  abbrev lower : ℕ
  lower = part_at new place width * 2 ^ place + old % 2 ^ place

  as_digits : replaced_at old new place width ≡ old / 2 ^ (place + width) * 2 ^ (place + width) + lower
  unfolding replaced_at
  as_digits =
      ap (λ (k : ℕ). k + old / 2 ^ (place + width) * 2 ^ (place + width)) (add_comm (old % 2 ^ place) (part_at new place width * 2 ^ place))
      ∙ add_comm lower (old / 2 ^ (place + width) * 2 ^ (place + width))

  lower_in : lower < 2 ^ (place + width)
  lower_in = rw (pow-add 2 place width, mul_comm (2 ^ place) (2 ^ width)) (digits_lt (part_in new place width) (mod-lt old (pow_pos place)))

  same_above : replaced_at old new place width / 2 ^ (place + width) ≡ old / 2 ^ (place + width)
  same_above = rw as_digits (high (old / 2 ^ (place + width)) (place + width) lower_in)

  same_lower : replaced_at old new place width % 2 ^ (place + width) ≡ lower
  same_lower = rw as_digits (low (old / 2 ^ (place + width)) (place + width) lower_in)

  same_below : replaced_at old new place width % 2 ^ place ≡ old % 2 ^ place
  same_below =
      sym (mod-mod-pow (replaced_at old new place width) width place)
      ∙ rw (add_comm width place, same_lower) (low (part_at new place width) place (mod-lt old (pow_pos place)))

  replaced_part : part_at (replaced_at old new place width) place width ≡ part_at new place width
  replaced_part =
      sym (cut_down (replaced_at old new place width) place width)
      ∙ rw same_lower (high (part_at new place width) place (mod-lt old (pow_pos place)))

  pub replaced_above : (from wide : ℕ) → place + width ≤ from → part_at (replaced_at old new place width) from wide ≡ part_at old from wide
  replaced_above from wide far = part_above (replaced_at old new place width) old from wide (place + width) far same_above

  pub replaced_below : (from wide : ℕ) → from + wide ≤ place → part_at (replaced_at old new place width) from wide ≡ part_at old from wide
  replaced_below from wide near = part_below (replaced_at old new place width) old from wide place near same_below

pub zeroed_part : (old place width : ℕ) → part_at (replaced_at old 0 place width) place width ≡ 0
unfolding part_at
zeroed_part old place width = replaced_part old 0 place width ∙ rw (zero-div (2 ^ place)) (zero-mod (2 ^ width))

-- ---- a part replaced: the bits below it, the part and the bits above it, put together
module _ (old new place width : ℕ) (old_fits : old < 256) (new_fits : new < 256) where
  part_inside : part_at new place width < 2 ^ (8 - place)
  unfolding part_at
  part_inside = lt_of_le_of_lt (mod-le (new / 2 ^ place) (2 ^ width)) (above_fits new place new_fits)

  taken_sum : joined_at old place (part_at new place width) ≡ old % 2 ^ place + part_at new place width * 2 ^ place
  unfolding joined_at
  taken_sum = rw (mod-eq_of_lt part_inside)

  taken_below : old % 2 ^ place + part_at new place width * 2 ^ place < 2 ^ (place + width)
  taken_below = rw (add_comm (old % 2 ^ place) (part_at new place width * 2 ^ place)) (lower_in old new place width)

  pub replaced_joined : joined_at (joined_at old place (part_at new place width)) (place + width) (part_at old (place + width) 8) ≡ replaced_at old new place width
  unfolding replaced_at
  replaced_joined =
      let high : part_at old (place + width) 8 ≡ old / 2 ^ (place + width) = sym (wide_part old (place + width) 8 old_fits (omega arith)) in
      rw (taken_sum, high)
      (joined_sum (old % 2 ^ place + part_at new place width * 2 ^ place) (place + width) (old / 2 ^ (place + width)) taken_below (above_fits old (place + width) old_fits))

  pub replaced_to_the_end : 8 ≤ place + width → joined_at old place (part_at new place width) ≡ replaced_at old new place width
  replaced_to_the_end far = joined_past (joined_at old place (part_at new place width)) (place + width) (part_at old (place + width) 8) (joined_fits old place (part_at new place width) old_fits) far ∙ replaced_joined

  pub replaced_fits : replaced_at old new place width < 256
  replaced_fits =
      rw (← replaced_joined)
      (joined_fits (joined_at old place (part_at new place width)) (place + width) (part_at old (place + width) 8) (joined_fits old place (part_at new place width) old_fits))

-- ---- the word length
pub cut_fits : (character lcr : ℕ) → character < 256 → cut_to character lcr < 256
unfolding cut_to
cut_fits character lcr fits = lt_of_le_of_lt (mod-le character (2 ^ (5 + part_at lcr 0 2))) fits

pub cut_part : (character lcr : ℕ) → part_at character 0 (5 + part_at lcr 0 2) ≡ cut_to character lcr
unfolding cut_to part_at
cut_part character lcr = rw (div-one character)
