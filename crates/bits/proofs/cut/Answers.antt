use Rattle.std.proofs.Common.{◌≡◌, refl, ◌∙◌, ℕ, ◌+◌, ◌-◌, ◌^◌, ◌<◌, eqb, true, get_or, bit_and, div-one}
use Rattle.std.proofs.lemmas.Bool.{agree_below_at, eqb-true}
use Rattle.bits.specs.declared.TheConstants.{WORD_MASKS}
use Rattle.bits.specs.Bits.{part_at, cut_to}
use Rattle.bits.specs.Laws.{part_in, masked_part, cut_part}
use Rattle.bits.proofs.cut.Goals as goal

-- each of the four stored masks is as many ones as its word is long, by one computed test
mask_right : (n : ℕ) → n < 4 → get_or WORD_MASKS n 0 ≡ 2 ^ (5 + n) - 1
mask_right n h = eqb-true _ _ (agree_below_at (λ (n : ℕ). eqb (get_or WORD_MASKS n 0) (2 ^ (5 + n) - 1)) (λ (n : ℕ). true) 4 n refl h)

masked : (character lcr : ℕ) → bit_and character (get_or WORD_MASKS (part_at lcr 0 2) 0) ≡ cut_to character lcr
masked character lcr =
    rw (mask_right (part_at lcr 0 2) (part_in lcr 0 2))
    (rw (div-one character) at (masked_part character 0 (5 + part_at lcr 0 2)) ∙ cut_part character lcr)

pub returns : goal.returns
returns c = rw (c.from.ensures, c.part.ensures) (masked c.args.character c.args.lcr)
