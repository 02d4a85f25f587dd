-- Laws: every public function's outcome is determined, any two outcomes that its contract allows are equal. `Post` is
-- the contract as the source states it, over the arguments, the result and what is left of anything lent.
use contract.Lifetimes.{Lfts}
use mathlib.Core.Path.{◌≡◌, sym, ◌∙◌}
use Rattle.bits.proofs.chosen.Reads as bits_chosen
use Rattle.bits.proofs.part.Reads as bits_part
use Rattle.bits.proofs.bit.Reads as bits_bit
use Rattle.bits.proofs.joined.Reads as bits_joined
use Rattle.bits.proofs.replaced.Reads as bits_replaced
use Rattle.bits.proofs.cut.Reads as bits_cut
use Rattle.queue.proofs.Queue.empty.Reads as queue_empty
use Rattle.queue.proofs.Queue.stays.Reads as queue_stays
use Rattle.queue.proofs.Queue.adds.Reads as queue_adds
use Rattle.queue.proofs.Queue.takes.Reads as queue_takes
use Rattle.queue.proofs.Queue.clears.Reads as queue_clears
use Rattle.queue.proofs.Queue.oldest.Reads as queue_oldest
use Rattle.queue.proofs.Queue.any_mark.Reads as queue_any_mark
use Rattle.queue.proofs.Queue.after.Reads as queue_after
use Rattle.text.proofs.put_line.Reads as text_put_line
use Rattle.event.proofs.event_of.Reads as event_of
use Rattle.event.proofs.events.Event.judged.Reads as event_judged
use Rattle.event.proofs.refusal.Refusal.number.Reads as event_refusal_number
use Rattle.event.proofs.refused_answer.Reads as event_refused_answer
use Rattle.event.proofs.kind.KindTryFromU64.try_from.Reads as event_kind_named
use Rattle.event.proofs.kind.Kind.number.Reads as event_kind_number
use Rattle.event.proofs.kind.Kind.operands.Reads as event_kind_operands
use Rattle.event.specs.Laws.{named_once}
use Rattle.file.proofs.read_at.Reads as file_read_at
use Rattle.writer.proofs.write.Reads as writer_write
use Rattle.writer.proofs.put_event.Reads as writer_put_event
use Rattle.sc16is752_file.proofs.sc16is752_event_bytes.Reads as sc16is752_event_bytes
use Rattle.levels.proofs.receive_level.Reads as levels_receive_level
use Rattle.levels.proofs.transmit_level.Reads as levels_transmit_level
use Rattle.levels.proofs.halt_level.Reads as levels_halt_level
use Rattle.levels.proofs.resume_level.Reads as levels_resume_level
use Rattle.levels.proofs.room.Reads as levels_room
use Rattle.levels.proofs.clears.Reads as levels_clears
use Rattle.levels.proofs.transmits.Reads as levels_transmits
use Rattle.levels.proofs.loads.Reads as levels_loads
use Rattle.registers.proofs.settings.Setting.held.Reads as registers_setting_held
use Rattle.registers.proofs.settings.Settings.register.Reads as registers_settings_register
use Rattle.registers.proofs.settings.Settings.written.Reads as registers_settings_written
use Rattle.registers.proofs.settings.Settings.with.Reads as registers_settings_with
use Rattle.registers.proofs.settings.Settings.pair.Reads as registers_settings_pair
use Rattle.registers.proofs.settings.Settings.pair_with.Reads as registers_settings_pair_with
use Rattle.registers.proofs.chooses_pair.Reads as registers_chooses_pair
use Rattle.registers.proofs.settings.Write.resets_device.Reads as registers_resets_device
use Rattle.receiver.proofs.arrival.Gate.passes.Reads as receiver_gate_passes
use Rattle.receiver.proofs.arrival.Arrival.arrived_byte.Reads as receiver_arrived_byte
use Rattle.receiver.proofs.arrival.Arrival.heard_by.Reads as receiver_heard_by
use Rattle.receiver.proofs.line.Line.arrived.Reads as receiver_line_arrived
use Rattle.receiver.proofs.line.Line.read.Reads as receiver_line_read
use Rattle.receiver.proofs.line.Line.cleared.Reads as receiver_line_cleared
use Rattle.receiver.proofs.line.Line.quieter.Reads as receiver_line_quieter
use Rattle.receiver.proofs.fate.Reads as receiver_fate
use Rattle.receiver.proofs.line.Status.lsr.Reads as receiver_status_lsr
use Rattle.lines.proofs.modem.Modem.cts.Reads as lines_modem_cts
use Rattle.lines.proofs.modem.Modem.cts_off.Reads as lines_modem_cts_off
use Rattle.lines.proofs.modem.Modem.changed.Reads as lines_modem_changed
use Rattle.lines.proofs.modem.Modem.read.Reads as lines_modem_read
use Rattle.lines.proofs.modem.Modem.msr.Reads as lines_modem_msr
use Rattle.lines.proofs.latch_driven.Reads as lines_latch_driven
use Rattle.lines.proofs.latch_after.Reads as lines_latch_after
use Rattle.lines.proofs.rts_asserted.Reads as lines_rts_asserted
use Rattle.lines.proofs.spaces.Reads as lines_spaces
use Rattle.lines.proofs.all_free.Reads as lines_all_free
use Rattle.lines.proofs.thr_condition.Reads as lines_thr_condition
use Rattle.lines.proofs.transmit.Shift.loaded.Reads as lines_shift_loaded
use Rattle.lines.proofs.transmit.Shift.busy.Reads as lines_shift_busy
use Rattle.lines.proofs.transmit.Shift.leaving.Reads as lines_shift_leaving
use Rattle.flow.proofs.flow.Flow.heard.Reads as flow_heard
use Rattle.flow.proofs.flow.Flow.written.Reads as flow_written
use Rattle.flow.proofs.flow.Flow.sends.Reads as flow_sends
use Rattle.flow.proofs.flow.Flow.frees.Reads as flow_frees
use Rattle.flow.proofs.flow.Flow.sent.Reads as flow_sent
use Rattle.flow.proofs.flow.Flow.settled.Reads as flow_settled
use Rattle.interrupts.proofs.flags.Flags.cleared.Reads as interrupts_flags_cleared
use Rattle.interrupts.proofs.flags.Flags.arrived.Reads as interrupts_flags_arrived
use Rattle.interrupts.proofs.flags.Flags.pins.Reads as interrupts_flags_pins
use Rattle.interrupts.proofs.flags.Flags.settled.Reads as interrupts_flags_settled
use Rattle.interrupts.proofs.interrupt.Interrupt.code.Reads as interrupts_interrupt_code
use Rattle.interrupts.proofs.interrupt.Interrupt.pending.Reads as interrupts_interrupt_pending
use Rattle.interrupts.proofs.interrupt.Interrupt.iir.Reads as interrupts_interrupt_iir
use Rattle.interrupts.proofs.pending.Reads as interrupts_pending
use Rattle.channel.proofs.channel.Channel.pending.Reads as channel_pending
use Rattle.channel.proofs.channel.Channel.rts.Reads as channel_rts
use Rattle.channel.proofs.channel.Channel.status.Reads as channel_status
use Rattle.channel.proofs.channel.Channel.shown.Reads as channel_shown
use Rattle.channel.proofs.channel.Channel.gives.Reads as channel_gives
use Rattle.channel.proofs.channel.Channel.settled.Reads as channel_settled
use Rattle.channel.proofs.channel.Channel.after.Reads as channel_after
use Rattle.channel.proofs.state.State.with_line.Reads as channel_state_with_line
use Rattle.channel.proofs.state.State.with_shift.Reads as channel_state_with_shift
use Rattle.channel.proofs.state.State.with_modem.Reads as channel_state_with_modem
use Rattle.channel.proofs.state.State.with_flags.Reads as channel_state_with_flags
use Rattle.channel.proofs.state.State.with_latch.Reads as channel_state_with_latch
use Rattle.channel.proofs.state.State.with_flow.Reads as channel_state_with_flow
use Rattle.acts.proofs.act.Reads as acts_act
use Rattle.acts.proofs.step.Reads as acts_step
use Rattle.device.proofs.answer_number.Reads as device_answer_number
use Rattle.device.proofs.side.SideFromU8.from.Reads as device_side_numbered
use Rattle.device.proofs.irq.Reads as device_irq
use Rattle.device.proofs.device.Device.step.Reads as device_step
use Rattle.device.proofs.device.Device.step_numbers.Reads as device_step_numbers
use Rattle.device.proofs.device.Device.new.Reads as device_new
use Rattle.device.proofs.device.Device.reset.Reads as device_reset
use Rattle.lent.proofs.drain_into.Reads as lent_drain_into
use Rattle.lent.specs.DrainLaws.{emptied_once}
use Rattle.run.proofs.cursor.Cursor.new.Reads as run_cursor_new
use Rattle.run.proofs.cursor.Cursor.fill.Reads as run_cursor_fill

abbrev pub Determined : {A R S : Type 0} → (A → R → S → Type 0) → Type 0
Determined {A} {R} {S} allowed = (a : A) (r r' : R) (s s' : S) → allowed a r s → allowed a r' s' → r ≡ r'

-- a contract that is an equation determines its result
pub by_equation : {A R S : Type 0} {f : A → R} {allowed : A → R → S → Type 0} → ((a : A) (r : R) (s : S) → allowed a r s → r ≡ f a) → Determined allowed
by_equation equal a r r' s s' p q = equal a r s p ∙ sym (equal a r' s' q)

pub bits_chosen_determined : Determined (bits_chosen.Post tt)
bits_chosen_determined = by_equation (λ a r s h. h)

pub bits_part_determined : Determined (bits_part.Post tt)
bits_part_determined = by_equation (λ a r s h. h)

pub bits_bit_determined : Determined (bits_bit.Post tt)
bits_bit_determined = by_equation (λ a r s h. h)

pub bits_joined_determined : Determined (bits_joined.Post tt)
bits_joined_determined = by_equation (λ a r s h. h)

pub bits_replaced_determined : Determined (bits_replaced.Post tt)
bits_replaced_determined = by_equation (λ a r s h. h)

pub bits_cut_determined : Determined (bits_cut.Post tt)
bits_cut_determined = by_equation (λ a r s h. h)

pub queue_empty_determined : Determined (queue_empty.Post tt)
queue_empty_determined = by_equation (λ a r s h. h)

pub queue_stays_determined : Determined (queue_stays.Post tt)
queue_stays_determined = by_equation (λ a r s h. h)

pub queue_adds_determined : Determined (queue_adds.Post tt)
queue_adds_determined = by_equation (λ a r s h. h)

pub queue_takes_determined : Determined (queue_takes.Post tt)
queue_takes_determined = by_equation (λ a r s h. h)

pub queue_clears_determined : Determined (queue_clears.Post tt)
queue_clears_determined = by_equation (λ a r s h. h)

pub queue_oldest_determined : Determined (queue_oldest.Post tt)
queue_oldest_determined = by_equation (λ a r s h. h)

pub queue_any_mark_determined : Determined (queue_any_mark.Post tt)
queue_any_mark_determined = by_equation (λ a r s h. h)

pub queue_after_determined : Determined (queue_after.Post tt)
queue_after_determined = by_equation (λ a r s h. h)

pub event_of_determined : Determined (event_of.Post tt)
event_of_determined = by_equation (λ a r s h. h)

pub event_judged_determined : Determined (event_judged.Post tt)
event_judged_determined = by_equation (λ a r s h. h)

pub event_refusal_number_determined : Determined (event_refusal_number.Post tt)
event_refusal_number_determined = by_equation (λ a r s h. h)

pub event_refused_answer_determined : Determined (event_refused_answer.Post tt)
event_refused_answer_determined = by_equation (λ a r s h. h)

pub event_kind_named_determined : Determined (event_kind_named.Post tt)
event_kind_named_determined a r r' s s' p q = named_once a.0 r r' p q

pub event_kind_number_determined : Determined (event_kind_number.Post tt)
event_kind_number_determined = by_equation (λ a r s h. h)

pub event_kind_operands_determined : Determined (event_kind_operands.Post tt)
event_kind_operands_determined = by_equation (λ a r s h. h)

-- at any lifetime of the input
pub file_read_at_determined : (κs : Lfts 1) → Determined (file_read_at.Post κs)
file_read_at_determined κs = by_equation (λ a r s h. h)

pub writer_write_determined : Determined (writer_write.Post tt)
writer_write_determined = by_equation (λ a r s h. h)

pub levels_receive_level_determined : Determined (levels_receive_level.Post tt)
levels_receive_level_determined = by_equation (λ a r s h. h)

pub levels_transmit_level_determined : Determined (levels_transmit_level.Post tt)
levels_transmit_level_determined = by_equation (λ a r s h. h)

pub levels_halt_level_determined : Determined (levels_halt_level.Post tt)
levels_halt_level_determined = by_equation (λ a r s h. h)

pub levels_resume_level_determined : Determined (levels_resume_level.Post tt)
levels_resume_level_determined = by_equation (λ a r s h. h)

pub levels_room_determined : Determined (levels_room.Post tt)
levels_room_determined = by_equation (λ a r s h. h)

pub levels_clears_determined : Determined (levels_clears.Post tt)
levels_clears_determined = by_equation (λ a r s h. h)

pub levels_transmits_determined : Determined (levels_transmits.Post tt)
levels_transmits_determined = by_equation (λ a r s h. h)

pub levels_loads_determined : Determined (levels_loads.Post tt)
levels_loads_determined = by_equation (λ a r s h. h)

pub registers_setting_held_determined : Determined (registers_setting_held.Post tt)
registers_setting_held_determined = by_equation (λ a r s h. h)

pub registers_settings_register_determined : Determined (registers_settings_register.Post tt)
registers_settings_register_determined = by_equation (λ a r s h. h)

pub registers_settings_written_determined : Determined (registers_settings_written.Post tt)
registers_settings_written_determined = by_equation (λ a r s h. h)

pub registers_settings_with_determined : Determined (registers_settings_with.Post tt)
registers_settings_with_determined = by_equation (λ a r s h. h)

pub registers_settings_pair_determined : Determined (registers_settings_pair.Post tt)
registers_settings_pair_determined = by_equation (λ a r s h. h)

pub registers_settings_pair_with_determined : Determined (registers_settings_pair_with.Post tt)
registers_settings_pair_with_determined = by_equation (λ a r s h. h)

pub registers_chooses_pair_determined : Determined (registers_chooses_pair.Post tt)
registers_chooses_pair_determined = by_equation (λ a r s h. h)

pub registers_resets_device_determined : Determined (registers_resets_device.Post tt)
registers_resets_device_determined = by_equation (λ a r s h. h)

pub receiver_gate_passes_determined : Determined (receiver_gate_passes.Post tt)
receiver_gate_passes_determined = by_equation (λ a r s h. h)

pub receiver_arrived_byte_determined : Determined (receiver_arrived_byte.Post tt)
receiver_arrived_byte_determined = by_equation (λ a r s h. h)

pub receiver_heard_by_determined : Determined (receiver_heard_by.Post tt)
receiver_heard_by_determined = by_equation (λ a r s h. h)

pub receiver_line_arrived_determined : Determined (receiver_line_arrived.Post tt)
receiver_line_arrived_determined = by_equation (λ a r s h. h)

pub receiver_line_read_determined : Determined (receiver_line_read.Post tt)
receiver_line_read_determined = by_equation (λ a r s h. h)

pub receiver_line_cleared_determined : Determined (receiver_line_cleared.Post tt)
receiver_line_cleared_determined = by_equation (λ a r s h. h)

pub receiver_line_quieter_determined : Determined (receiver_line_quieter.Post tt)
receiver_line_quieter_determined = by_equation (λ a r s h. h)

pub receiver_fate_determined : Determined (receiver_fate.Post tt)
receiver_fate_determined = by_equation (λ a r s h. h)

pub receiver_status_lsr_determined : Determined (receiver_status_lsr.Post tt)
receiver_status_lsr_determined = by_equation (λ a r s h. h)

pub lines_modem_cts_determined : Determined (lines_modem_cts.Post tt)
lines_modem_cts_determined = by_equation (λ a r s h. h)

pub lines_modem_cts_off_determined : Determined (lines_modem_cts_off.Post tt)
lines_modem_cts_off_determined = by_equation (λ a r s h. h)

pub lines_modem_changed_determined : Determined (lines_modem_changed.Post tt)
lines_modem_changed_determined = by_equation (λ a r s h. h)

pub lines_modem_read_determined : Determined (lines_modem_read.Post tt)
lines_modem_read_determined = by_equation (λ a r s h. h)

pub lines_modem_msr_determined : Determined (lines_modem_msr.Post tt)
lines_modem_msr_determined = by_equation (λ a r s h. h)

pub lines_latch_driven_determined : Determined (lines_latch_driven.Post tt)
lines_latch_driven_determined = by_equation (λ a r s h. h)

pub lines_latch_after_determined : Determined (lines_latch_after.Post tt)
lines_latch_after_determined = by_equation (λ a r s h. h)

pub lines_rts_asserted_determined : Determined (lines_rts_asserted.Post tt)
lines_rts_asserted_determined = by_equation (λ a r s h. h)

pub lines_spaces_determined : Determined (lines_spaces.Post tt)
lines_spaces_determined = by_equation (λ a r s h. h)

pub lines_all_free_determined : Determined (lines_all_free.Post tt)
lines_all_free_determined = by_equation (λ a r s h. h)

pub lines_thr_condition_determined : Determined (lines_thr_condition.Post tt)
lines_thr_condition_determined = by_equation (λ a r s h. h)

pub lines_shift_loaded_determined : Determined (lines_shift_loaded.Post tt)
lines_shift_loaded_determined = by_equation (λ a r s h. h)

pub lines_shift_busy_determined : Determined (lines_shift_busy.Post tt)
lines_shift_busy_determined = by_equation (λ a r s h. h)

pub lines_shift_leaving_determined : Determined (lines_shift_leaving.Post tt)
lines_shift_leaving_determined = by_equation (λ a r s h. h)

pub flow_heard_determined : Determined (flow_heard.Post tt)
flow_heard_determined = by_equation (λ a r s h. h)

pub flow_written_determined : Determined (flow_written.Post tt)
flow_written_determined = by_equation (λ a r s h. h)

pub flow_sends_determined : Determined (flow_sends.Post tt)
flow_sends_determined = by_equation (λ a r s h. h)

pub flow_frees_determined : Determined (flow_frees.Post tt)
flow_frees_determined = by_equation (λ a r s h. h)

pub flow_sent_determined : Determined (flow_sent.Post tt)
flow_sent_determined = by_equation (λ a r s h. h)

pub flow_settled_determined : Determined (flow_settled.Post tt)
flow_settled_determined = by_equation (λ a r s h. h)

pub interrupts_flags_cleared_determined : Determined (interrupts_flags_cleared.Post tt)
interrupts_flags_cleared_determined = by_equation (λ a r s h. h)

pub interrupts_flags_arrived_determined : Determined (interrupts_flags_arrived.Post tt)
interrupts_flags_arrived_determined = by_equation (λ a r s h. h)

pub interrupts_flags_pins_determined : Determined (interrupts_flags_pins.Post tt)
interrupts_flags_pins_determined = by_equation (λ a r s h. h)

pub interrupts_flags_settled_determined : Determined (interrupts_flags_settled.Post tt)
interrupts_flags_settled_determined = by_equation (λ a r s h. h)

pub interrupts_interrupt_code_determined : Determined (interrupts_interrupt_code.Post tt)
interrupts_interrupt_code_determined = by_equation (λ a r s h. h)

pub interrupts_interrupt_pending_determined : Determined (interrupts_interrupt_pending.Post tt)
interrupts_interrupt_pending_determined = by_equation (λ a r s h. h)

pub interrupts_interrupt_iir_determined : Determined (interrupts_interrupt_iir.Post tt)
interrupts_interrupt_iir_determined = by_equation (λ a r s h. h)

pub interrupts_pending_determined : Determined (interrupts_pending.Post tt)
interrupts_pending_determined = by_equation (λ a r s h. h)

pub channel_pending_determined : Determined (channel_pending.Post tt)
channel_pending_determined = by_equation (λ a r s h. h)

pub channel_rts_determined : Determined (channel_rts.Post tt)
channel_rts_determined = by_equation (λ a r s h. h)

pub channel_status_determined : Determined (channel_status.Post tt)
channel_status_determined = by_equation (λ a r s h. h)

pub channel_shown_determined : Determined (channel_shown.Post tt)
channel_shown_determined = by_equation (λ a r s h. h)

pub channel_gives_determined : Determined (channel_gives.Post tt)
channel_gives_determined = by_equation (λ a r s h. h)

pub channel_settled_determined : Determined (channel_settled.Post tt)
channel_settled_determined = by_equation (λ a r s h. h)

pub channel_after_determined : Determined (channel_after.Post tt)
channel_after_determined = by_equation (λ a r s h. h)

pub channel_state_with_line_determined : Determined (channel_state_with_line.Post tt)
channel_state_with_line_determined = by_equation (λ a r s h. h)

pub channel_state_with_shift_determined : Determined (channel_state_with_shift.Post tt)
channel_state_with_shift_determined = by_equation (λ a r s h. h)

pub channel_state_with_modem_determined : Determined (channel_state_with_modem.Post tt)
channel_state_with_modem_determined = by_equation (λ a r s h. h)

pub channel_state_with_flags_determined : Determined (channel_state_with_flags.Post tt)
channel_state_with_flags_determined = by_equation (λ a r s h. h)

pub channel_state_with_latch_determined : Determined (channel_state_with_latch.Post tt)
channel_state_with_latch_determined = by_equation (λ a r s h. h)

pub channel_state_with_flow_determined : Determined (channel_state_with_flow.Post tt)
channel_state_with_flow_determined = by_equation (λ a r s h. h)

pub acts_act_determined : Determined (acts_act.Post tt)
acts_act_determined = by_equation (λ a r s h. h)

pub acts_step_determined : Determined (acts_step.Post tt)
acts_step_determined = by_equation (λ a r s h. h)

pub device_answer_number_determined : Determined (device_answer_number.Post tt)
device_answer_number_determined = by_equation (λ a r s h. h)

pub device_side_numbered_determined : Determined (device_side_numbered.Post tt)
device_side_numbered_determined = by_equation (λ a r s h. h)

pub device_irq_determined : Determined (device_irq.Post tt)
device_irq_determined = by_equation (λ a r s h. h)

pub device_step_determined : Determined (device_step.Post tt)
device_step_determined = by_equation (λ a r s h. h)

pub device_step_numbers_determined : Determined (device_step_numbers.Post tt)
device_step_numbers_determined = by_equation (λ a r s h. h)

pub device_new_determined : Determined (device_new.Post tt)
device_new_determined = by_equation (λ a r s h. h)

pub device_reset_determined : Determined (device_reset.Post tt)
device_reset_determined = by_equation (λ a r s h. h)

pub run_cursor_new_determined : Determined (run_cursor_new.Post tt)
run_cursor_new_determined = by_equation (λ a r s h. h)

-- where something is lent, the result and a part of what is left of it
abbrev pub DeterminedWith : {A R S T : Type 0} → (S → T) → (A → R → S → Type 0) → Type 0
DeterminedWith {A} {R} {S} part allowed = (a : A) (r r' : R) (s s' : S) → allowed a r s → allowed a r' s' → (r ≡ r') × (part s ≡ part s')

-- at any lifetimes of the buffer, and of the word or the input beside it: the result, and what the buffer holds
pub text_put_line_determined : (κs : Lfts 2) → DeterminedWith (λ s. s.0.now) (text_put_line.Post κs)
text_put_line_determined κs a r r' s s' p q = (p.value ∙ sym q.value, p.out_after ∙ sym q.out_after)

pub writer_put_event_determined : (κs : Lfts 1) → DeterminedWith (λ s. s.0.now) (writer_put_event.Post κs)
writer_put_event_determined κs a r r' s s' p q = (p.0 ∙ sym q.0, p.1 ∙ sym q.1)

pub sc16is752_event_bytes_determined : (κs : Lfts 1) → DeterminedWith (λ s. s.1.1.1.1.0.now) (sc16is752_event_bytes.Post κs)
sc16is752_event_bytes_determined κs a r r' s s' p q = (p.0 ∙ sym q.0, p.1 ∙ sym q.1)

pub lent_drain_into_determined : (κs : Lfts 1) → DeterminedWith (λ s. s.0.now) (lent_drain_into.Post κs)
lent_drain_into_determined κs a r r' s s' p q = emptied_once p q

pub run_cursor_fill_determined : (κs : Lfts 2) → DeterminedWith (λ s. s.1.1.0.now) (run_cursor_fill.Post κs)
run_cursor_fill_determined κs a r r' s s' p q =
    let same : r ≡ r' = p.0 ∙ sym q.0 in
    (same, rw (p.1, q.1, same))
