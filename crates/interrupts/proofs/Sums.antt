-- For proofs alone: IIR joined from its parts is the sum that the definition states.
use Prim.Native.Nat.{ℕ, ◌+◌, ◌*◌, ◌<◌}
use native.Mathlib.Nat.{add_comm}
use native.Mathlib.Omega.{arith}
use mathlib.Core.Path.{◌≡◌, refl, ap, ◌∙◌}
use mathlib.Core.Bool.{Bool, true, false}
use Rattle.bits.specs.Choice.{pick, pick_by}
use Rattle.bits.specs.Bits.{bit_at, joined_at}
use Rattle.bits.specs.Laws.{joined_sum}
use Rattle.registers.specs.declared.settings.Settings.{Settings}
use Rattle.interrupts.specs.declared.interrupt.Interrupt.{Interrupt}
use Rattle.interrupts.specs.Interrupts.{code_of, iir_of}
use Rattle.interrupts.specs.Laws.{code_in}

fifo_bits : (fifo : Bool) → pick fifo 3 0 * 64 ≡ pick fifo 0xC0 0
fifo_bits true = refl
fifo_bits false = refl

pub iir_sum : (i : Interrupt) (s : Settings) → joined_at (code_of i) 6 (pick (bit_at s.fcr 0) 3 0) ≡ iir_of i s
unfolding iir_of
iir_sum i s =
    joined_sum (code_of i) 6 (pick (bit_at s.fcr 0) 3 0) (code_in i)
    (pick_by (λ (n : ℕ). n < 4) (bit_at s.fcr 0) (λ _. omega arith) (λ _. omega arith))
    ∙ add_comm (code_of i) (pick (bit_at s.fcr 0) 3 0 * 64)
    ∙ ap (λ (n : ℕ). n + code_of i) (fifo_bits (bit_at s.fcr 0))
