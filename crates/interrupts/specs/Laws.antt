-- Laws: the THR flag as it is computed, that it stands only where its condition holds, that flags settled again stay, and the bound
-- of IIR.
use Rattle.std.specs.Prelude.{ℕ, ◌+◌, ◌<◌, ◌≡◌, refl, Bool, true, false, not, ◌&&◌, ◌||◌}
use Rattle.std.proofs.Common.{arith}
use Rattle.bits.specs.Choice.{pick_by}
use Rattle.bits.specs.Bits.{bit_at}
use Rattle.registers.specs.declared.settings.Settings.{Settings}
use Rattle.interrupts.specs.declared.flags.Flags.{Flags}
use Rattle.interrupts.specs.declared.flags.Moment.{Moment}
use Rattle.interrupts.specs.declared.interrupt.Interrupt.{Interrupt}
use Rattle.interrupts.specs.declared.interrupt.Interrupt.TheVariants as interrupt
use Rattle.interrupts.specs.Interrupts.{code_of, iir_of}
use Rattle.interrupts.specs.Flags.{thr_settled, flags_settled}

thr_in_one : (flag before after : Bool) → after && (flag || not before) ≡ thr_settled flag before after
unfolding thr_settled
thr_in_one flag before false = refl
thr_in_one true true true = refl
thr_in_one true false true = refl
thr_in_one false true true = refl
thr_in_one false false true = refl

pub flags_in_one : (f : Flags) (before after : Moment)
    → record {
      special = f.special;
      cts = f.cts;
      rts = f.rts || before.rts && not after.rts;
      thr = after.thr && (f.thr || not before.thr);
    }
    ≡ flags_settled f before after
unfolding flags_settled
flags_in_one f before after = rw (thr_in_one f.thr before.thr after.thr)

-- "clears if it is false": a flag that stands after an event has its condition
pub thr_has_condition : (flag before after : Bool) → thr_settled flag before after ≡ true → after ≡ true
unfolding thr_settled
thr_has_condition flag before false h = h
thr_has_condition flag before true h = refl

-- a moment that is no other than the one before raises no flag, and clears none that has its condition
rts_stays : (flag rts : Bool) → flag || rts && not rts ≡ flag
rts_stays true rts = refl
rts_stays false true = refl
rts_stays false false = refl

thr_stays : (flag condition : Bool) → (flag ≡ true → condition ≡ true) → thr_settled flag condition condition ≡ flag
unfolding thr_settled
thr_stays flag true has = refl
thr_stays true false has = has refl
thr_stays false false has = refl

pub flags_stay : (f : Flags) (now : Moment) → (f.thr ≡ true → now.thr ≡ true) → flags_settled f now now ≡ f
unfolding flags_settled
flags_stay f now has = rw (rts_stays f.rts now.rts, thr_stays f.thr now.thr has)

pub code_in : (i : Interrupt) → code_of i < 64
unfolding code_of
code_in interrupt.LineStatus = omega arith
code_in interrupt.Timeout = omega arith
code_in interrupt.Receive = omega arith
code_in interrupt.Transmit = omega arith
code_in interrupt.Modem = omega arith
code_in interrupt.Special = omega arith
code_in interrupt.Flow = omega arith
code_in interrupt.Nothing = omega arith

pub iir_fits : (i : Interrupt) (s : Settings) → iir_of i s < 256
unfolding iir_of
iir_fits i s = pick_by (λ (n : ℕ). n + code_of i < 256) (bit_at s.fcr 0) (λ _. omega (arith, code_in i)) (λ _. omega (arith, code_in i))
