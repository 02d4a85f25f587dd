-- Laws: after every history a drain gives the next characters kept and not yet read, in order.
use Rattle.std.specs.Prelude.{ℕ, zero, suc, min, ◌≤◌, ◌≡◌, refl, Bool, true, false, not, ◌&&◌, leb, List, [], ◌∷◌, length, get_or, drop, take}
use Rattle.std.proofs.Common.{arith, ap, ◌∙◌, length-drop}
use Rattle.bits.specs.Choice.{pick, pick_by}
use Rattle.bits.specs.Bits.{bit_at}
use Rattle.queue.specs.declared.Character.{Character}
use Rattle.queue.specs.Queue.{none}
use Rattle.queue.specs.List.{items}
use Rattle.queue.specs.Laws.{length_items, items_taken}
use Rattle.event.specs.Events.{Made}
use Rattle.registers.specs.declared.register.Register.TheVariants as register
use Rattle.levels.specs.Queues.{room_of}
use Rattle.channel.specs.declared.channel.Channel.{Channel}
use Rattle.channel.specs.Channel.{WellFormed, shown_at}
use Rattle.acts.specs.Touches.{receive_change}
use Rattle.acts.specs.Step.{touched_by}
use Rattle.acts.specs.Laws.{touched_rx, well_formed_touched}
use Rattle.device.specs.declared.side.Side.{Side}
use Rattle.device.specs.declared.side.Side.TheVariants as side
use Rattle.device.specs.Device.{channel_at}
use Rattle.device.specs.Laws.{well_formed_at}
use Rattle.lent.specs.Drain.{read_rhr, is_open, part_length}
use Rattle.lent.specs.Reads.{channel_replies, Open}
use Rattle.lent.specs.DrainLaws.{read_keeps_settings, rhr_open, replies_made}
use Rattle.history.specs.Judge.{queued, unread, judgement}
use Rattle.history.specs.Demand3.{Log, log_of, AllIn, OfNewDevice, number, registers, tally}
use Rattle.history.proofs.Tally.{holds_count}
use Rattle.history.specs.Agreement.{Agrees}
use Rattle.history.proofs.Agreement.{agreement, well_formed_ran}
use Rattle.history.specs.Reads.{channel_read, side_number, rhr_read}
use Rattle.history.proofs.Proved.{by_log}
use Rattle.history.specs.Order.{bytes_of}
use Rattle.history.specs.Drains.{drained_count, DrainsNext}

next_first : (n : ℕ) (cs : List Character) → suc n ≤ length cs
    → bytes_of (take (suc n) cs) ≡ (get_or cs 0 none).byte ∷ bytes_of (take n (drop 1 cs))
next_first n [] few = absurd (omega (arith, few))
next_first n (c ∷ cs) few = refl

-- ---- reads of an open RHR, no more than are queued, give the oldest
next_taken : (ch : Channel) → Open ch → items (touched_by ch read_rhr).rx ≡ drop 1 (items ch.rx)
unfolding receive_change
next_taken ch opened = rw (touched_rx ch read_rhr, opened) (items_taken ch.rx (room_of ch.settings))

oldest_replied : (n : ℕ) (ch : Channel) → WellFormed ch → Open ch → n ≤ length (items ch.rx)
    → channel_replies ch n ≡ bytes_of (take n (items ch.rx))
unfolding channel_replies
oldest_replied zero ch ok named few = refl
oldest_replied (suc n) ch ok named few =
    let after = touched_by ch read_rhr in
    let taken : items after.rx ≡ drop 1 (items ch.rx) = next_taken ch named in
    let fewer : n ≤ length (items after.rx) = rw (taken, length-drop) (omega (arith, few)) in
    let first = channel_read ch 0 register.RhrThr named ∙ rhr_read ch ok (shown_at ch register.RhrThr) in
    let further = oldest_replied n after (well_formed_touched ch read_rhr (omega arith) ok) (rw (read_keeps_settings ch) named) fewer in
    rw (next_first n (items ch.rx) few) (λ i. first i ∷ (further ∙ ap (λ cs. bytes_of (take n cs)) taken) i)

-- ---- how many a drain takes, and the part, by the judge
count_by_lcr : (w : Side) (shut : Bool) (n : ℕ) → pick (leb (number w) 1 && not shut) n 0 ≡ pick shut 0 n
count_by_lcr side.A true n = refl
count_by_lcr side.A false n = refl
count_by_lcr side.B true n = refl
count_by_lcr side.B false n = refl

module _ (w : Side) (history : List Made) (range : AllIn history) (most room : ℕ) where
  abbrev log : Log
  log = log_of history

  abbrev ch : Channel
  ch = channel_at log.device w

  abbrev least : ℕ
  least = min (min most (queued (tally w log))) room

  agrees : Agrees w log.device (judgement w history)
  agrees = agreement w history range

  count_judged : part_length log.device (number w) most room ≡ drained_count w log most room
  unfolding part_length is_open
  count_judged =
      rw (side_number w, agrees.same.own, holds_count agrees.holds) (count_by_lcr w (bit_at (registers w log).lcr 7) least)

  abbrev NextReplied : ℕ → Type 0
  NextReplied n = channel_replies ch n ≡ bytes_of (take n (unread (tally w log)))

  next_replied : NextReplied (drained_count w log most room)
  unfolding channel_replies
  next_replied =
      pick_by NextReplied (bit_at (registers w log).lcr 7) (λ _. refl)
      (λ opened.
      let ok : WellFormed ch = well_formed_at log.device w (well_formed_ran history range) in
      let named : Open ch = rhr_open ch (rw (agrees.same.own, opened) refl) in
      let few : least ≤ length (items ch.rx) = rw (length_items ch.rx, holds_count agrees.holds) (omega arith) in
      oldest_replied least ch ok named few ∙ ap (λ cs. bytes_of (take least cs)) agrees.holds.same)

  by_judge : DrainsNext w log most room
  by_judge =
      record {
        count = count_judged;
        part = replies_made log.device (number w) most room ∙ rw (side_number w, count_judged) next_replied;
      }

pub drains_next : (w : Side) (log : Log) (most room : ℕ) → OfNewDevice log → DrainsNext w log most room
drains_next w log most room of =
    by_log (λ log. DrainsNext w log most room) log of (by_judge w log.history of.range most room)
