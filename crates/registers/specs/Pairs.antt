-- Definitions: "EFR 1:0 of 10 compares XON1 and XOFF1, 01 the second pair, 00 and 11 nothing yet; EFR 3:2 chooses alike what is
-- sent."
use Rattle.std.specs.Prelude.{ℕ, Bool, ◌||◌, eqb}
use Rattle.bits.specs.Choice.{pick}
use Rattle.bits.specs.Bits.{part_at}
use Rattle.registers.specs.declared.pair.Pair.{Pair}
use Rattle.registers.specs.declared.settings.Settings.{Settings}

-- whether the two bits of EFR from a place on choose a pair: 10 or 01
unfoldable pub chooses_pair : ℕ → ℕ → Bool
chooses_pair efr place = eqb (part_at efr place 2) 2 || eqb (part_at efr place 2) 1

-- 10 is the first
unfoldable pub chooses_first : ℕ → ℕ → Bool
chooses_first efr place = eqb (part_at efr place 2) 2

-- the pair that they choose: those from 0 on what is compared, those from 2 on what is sent
unfoldable pub pair_at : Settings → ℕ → Pair
pair_at s place =
    record {
      xon = pick (chooses_first s.efr place) s.xon1 s.xon2;
      xoff = pick (chooses_first s.efr place) s.xoff1 s.xoff2;
    }
