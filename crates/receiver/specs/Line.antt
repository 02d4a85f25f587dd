-- Definitions: "Receive queue": what events make of the overrun and the quiet count, the fates, and LSR.
use Rattle.std.specs.Prelude.{ℕ, ◌+◌, ◌*◌, Bool, not, ◌&&◌, ◌||◌, ltb}
use Rattle.bits.specs.Choice.{pick}
use Rattle.bits.specs.Bits.{one_if}
use Rattle.registers.specs.declared.register.Register.{Register}
use Rattle.registers.specs.declared.register.Register.TheVariants as register
use Rattle.registers.specs.Windows.{same}
use Rattle.receiver.specs.declared.arrival.Gate.{Gate}
use Rattle.receiver.specs.declared.arrival.Gate.TheVariants as gate
use Rattle.receiver.specs.declared.line.Line.{Line}
use Rattle.receiver.specs.declared.line.Status.{Status}

-- "else lost (1) and overrun is set"; "an arrival of any fate .. makes [the quiet count] 0"
unfoldable pub line_arrived : Line → Bool → Line
line_arrived l kept = record { overrun = l.overrun || not kept; quiet = 0 }

-- LSR: "1 overrun, cleared by this read"; "an RHR read .. makes it 0"
unfoldable pub line_read : Line → Register → Line
line_read l read =
    record { overrun = l.overrun && not (same read register.Lsr); quiet = pick (same read register.RhrThr) 0 l.quiet }

-- "Overrun stays" over a clear; "a receive clear makes it 0"
unfoldable pub line_cleared : Line → Bool → Line
line_cleared l clears = record { overrun = l.overrun; quiet = pick clears 0 l.quiet }

-- "Quiet adds 1 up to 4"
unfoldable pub line_quieter : Line → Line
line_quieter l = record { overrun = l.overrun; quiet = l.quiet + one_if (ltb l.quiet 4) }

-- "Fates: 0 kept, 1 lost for want of room, 2 dropped by a disabled receiver, 3 dropped by address."; Xoff and Xon: "Neither is
-- queued: new fate 4."
unfoldable pub fate_number : Gate → Bool → ℕ
fate_number gate.Passes kept = pick kept 0 1
fate_number gate.Off kept = 2
fate_number gate.Elsewhere kept = 3
fate_number gate.Xoff kept = 4
fate_number gate.Xon kept = 4

-- "LSR: bit 0 queue not empty; 1 overrun ..; 4:2 marks of the oldest (break, framing, parity); 5 transmit queue empty;
-- 6 that and shift register empty; 7 some queued mark not 0."
unfoldable pub lsr_of : Status → ℕ
lsr_of l =
    one_if l.ready + one_if l.overrun * 2 + l.mark * 4 + one_if l.sent * 32 + one_if l.idle * 64
    + one_if l.error * 128
