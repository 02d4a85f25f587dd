-- Definitions: "Interrupts, highest first (Table 21)".
use Rattle.std.specs.Prelude.{ℕ, ◌+◌, Bool, not, ◌&&◌, ◌||◌, eqb, leb}
use Rattle.bits.specs.Choice.{pick}
use Rattle.bits.specs.Bits.{bit_at, part_at}
use Rattle.registers.specs.declared.settings.Settings.{Settings}
use Rattle.levels.specs.declared.trigger.Characters.{Characters}
use Rattle.levels.specs.Levels.{receive_level}
use Rattle.receiver.specs.declared.line.Line.{Line}
use Rattle.lines.specs.declared.modem.Modem.{Modem}
use Rattle.flow.specs.declared.flow.Flow.{Flow}
use Rattle.interrupts.specs.declared.flags.Flags.{Flags}
use Rattle.interrupts.specs.declared.interrupt.Interrupt.{Interrupt}
use Rattle.interrupts.specs.declared.interrupt.Interrupt.TheVariants as interrupt

-- the table's codes
unfoldable pub code_of : Interrupt → ℕ
code_of interrupt.LineStatus = 0x06
code_of interrupt.Timeout = 0x0C
code_of interrupt.Receive = 0x04
code_of interrupt.Transmit = 0x02
code_of interrupt.Modem = 0x00
code_of interrupt.Special = 0x10
code_of interrupt.Flow = 0x20
code_of interrupt.Nothing = 0x01

unfoldable pub is_pending : Interrupt → Bool
is_pending i = not (eqb (code_of i) 0x01)

-- "level (1 if FCR 0 clear)"
unfoldable pub trigger_level : Settings → Characters
trigger_level s = pick (bit_at s.fcr 0) (receive_level s) (record { 0 = 1 })

-- "a bit of MSR 3:0 (bit 0 not counted with EFR 7)"
unfoldable pub modem_changed : Settings → Modem → Bool
modem_changed s m = pick (bit_at s.efr 7) (not (eqb (part_at m.changes 1 3) 0)) (not (eqb m.changes 0))

-- the table's rows; so many characters are received, and `error` is LSR 7
-- 06: "IER 2 and (overrun or LSR 7)"
unfoldable pub line_status_pending : Settings → Line → Bool → Bool
line_status_pending s line error = bit_at s.ier 2 && (line.overrun || error)

-- 0C: "IER 0, FCR 0, queue not empty, quiet count 4"
unfoldable pub timeout_pending : Settings → Line → Characters → Bool
timeout_pending s line received = bit_at s.ier 0 && bit_at s.fcr 0 && not (eqb received.0 0) && eqb line.quiet 4

-- 04: "IER 0 and count ≥ level"
unfoldable pub receive_pending : Settings → Characters → Bool
receive_pending s received = bit_at s.ier 0 && leb (trigger_level s).0 received.0

-- 02: "IER 1 and THR flag"
unfoldable pub transmit_pending : Settings → Flags → Bool
transmit_pending s flags = bit_at s.ier 1 && flags.thr

-- 00: "IER 3 and a bit of MSR 3:0"
unfoldable pub modem_pending : Settings → Modem → Bool
modem_pending s modem = bit_at s.ier 3 && modem_changed s modem

-- 10: "IER 5 and special flag"; "Code 10 is now pending on either flag"
unfoldable pub special_pending : Settings → Flow → Flags → Bool
special_pending s flow flags = bit_at s.ier 5 && (flags.special || flow.stopped)

-- 20: "IER 7 and CTS flag, or IER 6 and RTS flag"
unfoldable pub flow_pending : Settings → Flags → Bool
flow_pending s flags = bit_at s.ier 7 && flags.cts || bit_at s.ier 6 && flags.rts

-- "highest first"
unfoldable pub pending_of : Settings → Line → Modem → Flow → Flags → Characters → Bool → Interrupt
pending_of s line modem flow flags received error =
    pick (line_status_pending s line error) interrupt.LineStatus
    (pick (timeout_pending s line received) interrupt.Timeout
    (pick (receive_pending s received) interrupt.Receive
    (pick (transmit_pending s flags) interrupt.Transmit
    (pick (modem_pending s modem) interrupt.Modem
    (pick (special_pending s flow flags) interrupt.Special
    (pick (flow_pending s flags) interrupt.Flow interrupt.Nothing))))))

-- "IIR is C0 (if FCR 0) plus the code"
unfoldable pub iir_of : Interrupt → Settings → ℕ
iir_of i s = pick (bit_at s.fcr 0) 0xC0 0 + code_of i
