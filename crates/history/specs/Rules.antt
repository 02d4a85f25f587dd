-- Definitions: the rules that the judge shares with the device, written out to be held against document 01: what clears the receive
-- queue, what is a read of it, what becomes of an arrival, mode by mode, and what is kept. `proofs/Rules` shows that judge and device
-- go by them.
use Prim.Native.Nat.{ℕ, ◌+◌, ◌%◌, ◌^◌}
use Rattle.std.specs.Prelude.{◌≡◌, Bool, not, ◌&&◌, ◌||◌, ltb, Ok, Err}
use Rattle.std.proofs.Math.Bool.{true, false}
use Rattle.std.proofs.Math.Dec.{eqb}
use Rattle.bits.specs.Choice.{pick}
use Rattle.bits.specs.Bits.{differs, bit_at, part_at, replaced_at}
use Rattle.queue.specs.Change.{Change, Add, Take, Clear, Stay}
use Rattle.event.specs.declared.events.Event.{Event}
use Rattle.event.specs.declared.events.Event.TheVariants as event
use Rattle.event.specs.Events.{Made}
use Rattle.event.specs.declared.events.Touch.{Touch}
use Rattle.event.specs.declared.events.Touch.TheVariants as touch
use Rattle.registers.specs.declared.register.Register.{Register}
use Rattle.registers.specs.declared.register.Register.TheVariants as register
use Rattle.registers.specs.declared.settings.Setting.{Setting}
use Rattle.registers.specs.declared.settings.Settings.{Settings}
use Rattle.registers.specs.Windows.{same}
use Rattle.levels.specs.Queues.{room_of}
use Rattle.receiver.specs.Arrivals.{heard_of}
use Rattle.receiver.specs.Line.{fate_number}
use Rattle.device.specs.declared.side.Side.{Side}
use Rattle.device.specs.Device.{side_numbered}
use Rattle.history.specs.Judge.{queued, keeps, Ledger, is_side}

-- ---- "LCR bit 7 = 0: general set: RHR/THR 0, .. IIR/FCR 2, .. IOControl 0E": there alone, and nowhere else
abbrev pub general : Settings → ℕ → ℕ → Bool
general s address place = not (bit_at s.lcr 7) && eqb address place

-- which places name the three registers
abbrev pub NamedAt : (ℕ → Bool) → Register → Type 0
NamedAt at r =
    (same r register.RhrThr ≡ at 0) × (same r register.IirFcr ≡ at 2) × (same r register.IoControl ≡ at 14)

-- ---- what becomes of an arrival
-- its fate by the judge, as `Demand3.fate` has it
abbrev pub fate_by : Ledger → ℕ → ℕ → ℕ
fate_by l byte mark = fate_number (heard_of l.own byte mark).gate (keeps l.tally (room_of l.own))

-- "a break's byte counts as 0; the byte is cut to the word length, 5 + LCR 1:0 bits"
abbrev pub as_queued : Settings → ℕ → ℕ → ℕ
as_queued s byte mark = pick (bit_at mark 2) 0 byte % 2 ^ (5 + part_at s.lcr 0 2)

-- "A passing character is kept .. if fewer than room are queued, else lost (1)"; "Room is 64 with FCR 0 set, 1 without"
abbrev pub room_fate : Ledger → ℕ
room_fate l = pick (ltb (queued l.tally) (pick (bit_at l.own.fcr 0) 64 1)) 0 1

-- "passes unless EFCR 1 is set (2)"
abbrev pub data_fate : Ledger → ℕ
data_fate l = pick (bit_at l.own.efcr 1) 2 (room_fate l)

-- a character that equals the Xoff or the Xon of the pair that is compared: "EFR 1:0 of 10 compares XON1 and XOFF1, 01 the second
-- pair, 00 and 11 nothing yet"
abbrev pub equals_flow : Settings → ℕ → Bool
equals_flow s character =
    pick (eqb (part_at s.efr 0 2) 2) (eqb character s.xoff1 || eqb character s.xon1)
    (eqb (part_at s.efr 0 2) 1 && (eqb character s.xoff2 || eqb character s.xon2))

-- "a passing, unmarked character that wasn't a special match and equals, cut, the whole Xoff ..; one equal to Xon"
abbrev pub is_taken : Settings → ℕ → ℕ → Bool
is_taken s byte mark =
    eqb mark 0 && not (bit_at s.efr 5 && eqb (as_queued s byte mark) s.xoff2) && equals_flow s (as_queued s byte mark)

-- ---- what an event does to what is kept and read, here and nowhere else
-- IOControl: "writing bit 3 resets the device"
abbrev pub reset_written : Settings → ℕ → ℕ → Bool
reset_written s address byte = general s address 14 && bit_at byte 3

-- "An FCR write with bit 1 set clears the receive queue ..; a change of bit 0 clears both"
abbrev pub clear_written : Settings → ℕ → ℕ → Bool
clear_written s address byte = general s address 2 && (bit_at byte 1 || differs (bit_at s.fcr 0) (bit_at byte 0))

-- a write to this channel (own), or to the other
abbrev pub write_clears : Bool → Ledger → ℕ → ℕ → Bool
write_clears true l address byte = reset_written l.own address byte || clear_written l.own address byte
write_clears false l address byte = reset_written l.other address byte

-- what passes is offered as it would be queued, with its mark
abbrev pub offered : Ledger → ℕ → ℕ → Change
offered l byte mark = pick (ltb (fate_by l byte mark) 2) (Add (record { byte = as_queued l.own byte mark; mark = mark })) Stay

abbrev pub touch_change : Bool → Ledger → Touch → Change
touch_change own l (touch.Write address byte) = pick (write_clears own l address byte) Clear Stay
touch_change own l (touch.Read address) = pick own (pick (general l.own address 0) Take Stay) Stay
touch_change own l (touch.Arrival byte mark) = pick own (offered l byte mark) Stay
touch_change own l touch.Slot = Stay
touch_change own l (touch.Pins value) = Stay
touch_change own l touch.Quiet = Stay
touch_change own l touch.RtsLook = Stay

abbrev pub event_change : Side → Ledger → Event → Change
event_change w l (event.At channel t) = touch_change (is_side w (side_numbered channel)) l t
event_change w l event.Reset = Clear
event_change w l event.IrqLook = Stay

abbrev pub change_of : Side → Ledger → Made → Change
change_of w l (Ok e) = event_change w l e
change_of w l (Err r) = Stay

-- ---- the stored registers after an arrival: EFCR 0 and EFR 5 set, "ninth bit 1 and equal to XOFF2 clears EFCR 1 ..; ninth bit 1 and
-- unequal sets EFCR 1"; no other arrival sets any
abbrev pub is_address : Settings → ℕ → Bool
is_address s mark = bit_at s.efcr 0 && bit_at s.efr 5 && bit_at mark 0

-- EFCR with bit 1 clear for an address that equals XOFF2, else set
abbrev pub efcr_heard : Settings → ℕ → ℕ → Setting
efcr_heard s byte mark =
    record { register = register.Efcr; byte = replaced_at s.efcr (pick (eqb (as_queued s byte mark) s.xoff2) 0 2) 1 1 }
