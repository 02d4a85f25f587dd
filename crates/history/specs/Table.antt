-- Laws: P1 to P12 of "Cases on each side", as one table: what the definitions give, beside what document 01 says.
use Rattle.std.specs.Prelude.{ℕ, ◌≡◌, refl, List, [], ◌∷◌, ◌++◌, map, replicate, Result, Ok, Err}
use Rattle.bits.specs.Bits.{one_if, differs, bit_at, part_at, replaced_at, cut_to}
use Rattle.queue.specs.Queue.{empty_queue, oldest_of, marked_from, any_mark_of, adds_to, takes_from, clears_all, stays_as, moved_by, after_of}
use Rattle.event.specs.declared.events.Event.{Event}
use Rattle.event.specs.declared.events.Event.TheVariants as event
use Rattle.event.specs.declared.events.Touch.TheVariants as touch
use Rattle.event.specs.Refusals.{refusal_number}
use Rattle.event.specs.declared.refusal.Refusal.{Refusal}
use Rattle.file.specs.declared.number.Number.{Number}
use Rattle.file.specs.Numbers.{second_at, number_at}
use Rattle.registers.specs.Windows.{general_at, enhanced_at, register_at, tcr_open}
use Rattle.registers.specs.Writes.{guard_open, ier_written, fcr_written, efcr_written, taken_by, setting_of, if_set, with_setting, resets_device}
use Rattle.registers.specs.Pairs.{chooses_pair}
use Rattle.levels.specs.Levels.{fours, transmit_level}
use Rattle.levels.specs.Queues.{room_of, fifo_changes, clears}
use Rattle.receiver.specs.Arrivals.{mode_of, arrived_byte, equals_xoff2, does_pass, unless_off, receiver_set, gate_plain, heard_plain, heard_ninth, heard_address, heard_of}
use Rattle.receiver.specs.Line.{line_arrived, line_read, line_cleared, fate_number, lsr_of}
use Rattle.lines.specs.Transmit.{spaces_of, all_free, is_busy, thr_condition}
use Rattle.lines.specs.Rts.{latch_driven, latch_after, rts_of}
use Rattle.lines.specs.Modem.{modem_read}
use Rattle.flow.specs.Flow.{flow_heard, flow_written, flow_settled}
use Rattle.interrupts.specs.Interrupts.{code_of, line_status_pending, timeout_pending, receive_pending, transmit_pending, modem_pending, special_pending, flow_pending, pending_of, iir_of}
use Rattle.interrupts.specs.Flags.{flags_cleared, flags_arrived, thr_settled, flags_settled}
use Rattle.channel.specs.State.{with_line, with_modem, with_flags, with_latch, with_flow}
use Rattle.channel.specs.Channel.{pending_at, shown_at, status_of, read_of}
use Rattle.acts.specs.Touches.{setting_by, receive_change, sent_by, transmit_change, resets_by}
use Rattle.acts.specs.Acts.{act_with, write_act, read_act, arrival_act, act_of}
use Rattle.channel.specs.Settle.{moment_of, moment_at, settled_of, after_step}
use Rattle.acts.specs.Step.{step_at}
use Rattle.device.specs.declared.device.Device.{Device}
use Rattle.device.specs.Reset.{settings_reset, lines_reset, reset_of, blank_settings, blank_channel, reset_device, new_device}
use Rattle.device.specs.Device.{side_numbered, touched_at, named_step, step_of}

-- the replies to events, each in turn from a new device, and the device after them
abbrev replies_from : Device → List Event → List ℕ
replies_from d [] = []
replies_from d (e ∷ es) = (step_of d e).reply ∷ replies_from (step_of d e).device es

abbrev device_after : Device → List Event → Device
device_after d [] = d
device_after d (e ∷ es) = device_after (step_of d e).device es

-- the replies to further events after some
abbrev after : List Event → List Event → List ℕ
after before further = replies_from (device_after new_device before) further

-- the number at the start of an input, and the refusal of a broken one
abbrev value_of : Result Number Refusal → List ℕ
value_of (Ok number) = number.value ∷ []
value_of (Err r) = []

abbrev refusal_of : Result Number Refusal → List ℕ
refusal_of (Ok number) = []
refusal_of (Err r) = refusal_number r ∷ []

-- events of channel 0
abbrev write : ℕ → ℕ → Event
write address byte = event.At 0 (touch.Write address byte)

abbrev read_at : ℕ → Event
read_at address = event.At 0 (touch.Read address)

abbrev arrival : ℕ → ℕ → Event
arrival byte mark = event.At 0 (touch.Arrival byte mark)

-- LSR 4:2 and LSR 7 of a reply
abbrev lsr_bits : List ℕ → List ℕ
lsr_bits [] = []
lsr_bits (lsr ∷ more) = part_at lsr 2 3 ∷ part_at lsr 7 1 ∷ []

-- something to lose: an overrun, FIFO on, a marked character received and one to send, the THR flag cleared, IER 05, EFCR 03
abbrev disturbed : List Event
disturbed =
    arrival 0x41 0 ∷ arrival 0x42 0 ∷ write 2 0x01 ∷ arrival 0x43 2 ∷ write 0 0x44 ∷ write 1 0x02 ∷ read_at 2 ∷ write 1 0x05 ∷ write 15 0x03 ∷ []

-- 8 data bits, the address 12 in XOFF2, special character detect, and 9-bit mode by EFCR: 01, or 03 with the receiver off
abbrev auto_address : ℕ → List Event
auto_address efcr = write 3 0xBF ∷ write 7 0x12 ∷ write 2 0x20 ∷ write 3 0x03 ∷ write 15 efcr ∷ []

pub record Row : Type 0 where
  pub given : List ℕ
  pub expected : List ℕ

unfoldable pub table : List Row
table =
    -- P1 reset, read IIR: 01. Without the reset: C6, the overrun and the mark
    record { given = after (disturbed ++ (event.Reset ∷ [])) (read_at 2 ∷ []); expected = 0x01 ∷ [] }
    -- P2 reset, IER = 02, read IIR twice: 02, 01. Without the reset: C1, C1, as the THR flag was cleared
    ∷ record { given = after (disturbed ++ (event.Reset ∷ write 1 0x02 ∷ [])) (read_at 2 ∷ read_at 2 ∷ []); expected = 0x02 ∷ 0x01 ∷ [] }
    -- P3 the 64th arrival with FIFO on: fate 0
    ∷ record { given = after (write 2 0x01 ∷ replicate 63 (arrival 0x41 0)) (arrival 0x41 0 ∷ []); expected = 0 ∷ [] }
    -- P4 the 65th, none read: 1
    ∷ record { given = after (write 2 0x01 ∷ replicate 64 (arrival 0x41 0)) (arrival 0x41 0 ∷ []); expected = 1 ∷ [] }
    -- P5 FIFO off, second arrival: 1
    ∷ record { given = after (arrival 0x41 0 ∷ []) (arrival 0x41 0 ∷ []); expected = 1 ∷ [] }
    -- P6 auto-address, XOFF2 = 12, LCR = 03, ninth-bit arrival 12: fate 0, EFCR 1 clear. If it opened nothing EFCR would stay 03
    ∷ record { given = after (auto_address 0x03) (arrival 0x12 1 ∷ read_at 15 ∷ []); expected = 0 ∷ 0x01 ∷ [] }
    -- P7 arrival 13: fate 3, EFCR 1 set. If it closed nothing EFCR would stay 01
    ∷ record { given = after (auto_address 0x01) (arrival 0x13 1 ∷ read_at 15 ∷ []); expected = 3 ∷ 0x03 ∷ [] }
    -- P8 FCR = F1 with EFR 4 clear, transmit level: 8 spaces
    ∷ record { given = (transmit_level (device_after new_device (write 2 0xF1 ∷ [])).a.settings).0 ∷ []; expected = 8 ∷ [] }
    -- P9 marks 0, 2 queued: LSR 4:2 is 0, bit 7 is 1
    ∷ record { given = lsr_bits (after (write 2 0x01 ∷ arrival 0x41 0 ∷ arrival 0x42 2 ∷ []) (read_at 5 ∷ [])); expected = 0 ∷ 1 ∷ [] }
    -- P10 LCR = BF, read 0: 0
    ∷ record { given = after (write 3 0xBF ∷ []) (read_at 0 ∷ []); expected = 0 ∷ [] }
    -- P11 number 80 01: 128
    ∷ record { given = value_of (number_at (0x80 ∷ 0x01 ∷ []) 0); expected = 128 ∷ [] }
    -- P12 80 00: refusal 1
    ∷ record { given = refusal_of (number_at (0x80 ∷ 0x00 ∷ []) 0); expected = 1 ∷ [] }
    ∷ []

pub cases_hold : map (λ row. row.given) table ≡ map (λ row. row.expected) table
unfolding table one_if differs bit_at part_at replaced_at cut_to empty_queue oldest_of marked_from any_mark_of adds_to takes_from clears_all stays_as moved_by after_of second_at number_at general_at enhanced_at register_at tcr_open guard_open ier_written fcr_written efcr_written taken_by setting_of if_set with_setting chooses_pair resets_device mode_of arrived_byte equals_xoff2 does_pass unless_off receiver_set gate_plain heard_plain heard_ninth heard_address heard_of room_of fours transmit_level fifo_changes clears line_arrived line_read line_cleared fate_number lsr_of spaces_of all_free is_busy thr_condition latch_driven latch_after rts_of modem_read flow_heard flow_written flow_settled code_of line_status_pending timeout_pending receive_pending transmit_pending modem_pending special_pending flow_pending pending_of iir_of flags_cleared flags_arrived thr_settled flags_settled with_line with_modem with_flags with_latch with_flow pending_at shown_at status_of read_of setting_by receive_change sent_by transmit_change resets_by act_with write_act read_act arrival_act act_of moment_of moment_at settled_of step_at after_step settings_reset lines_reset reset_of blank_settings blank_channel reset_device new_device side_numbered touched_at named_step step_of
cases_hold = refl
