-- For proofs alone: reads of RHR made one by one into a part: what is left to be read comes to what the whole does.
use Rattle.std.specs.Prelude.{ℕ, zero, suc, ◌+◌, ◌-◌, ◌<◌, ◌≤◌, ◌≡◌, refl, List, [], ◌∷◌, ◌++◌, length, take, set}
use native.Mathlib.Nat.{sub-zero}
use Rattle.std.proofs.Common.{arith, ◌∙◌, sym, ap}
use Rattle.std.proofs.lemmas.List.{length-set, take_more_set, append_assoc, append-nil, take_all}
use Rattle.queue.specs.declared.Queue.{Queue}
use Rattle.queue.specs.Queue.{takes_from, oldest_of, after_of}
use Rattle.queue.specs.Laws.{well_formed_after}
use Rattle.registers.specs.Windows.{register_at}
use Rattle.channel.specs.declared.channel.Channel.{Channel}
use Rattle.channel.specs.Channel.{WellFormed, shown_at}
use Rattle.channel.specs.Laws.{read_fits}
use Rattle.channel.specs.Settle.{settled_of}
use Rattle.acts.specs.Acts.{act_with, read_act, act_of}
use Rattle.acts.specs.Step.{step_at, touched_by}
use Rattle.acts.specs.Laws.{well_formed_touched}
use Rattle.lent.specs.DrainLaws.{read_keeps_settings}
use Rattle.lent.specs.Drain.{read_rhr}
use Rattle.lent.specs.Reads.{channel_after, channel_replies, Open}
use Rattle.lent.proofs.Between.{Calm, with_rx, taken, calm_touched, calm_taken, read_gives, after_taken, replies_taken}

-- one more read
after_one : (ch : Channel) (n : ℕ) → 0 < n → channel_after ch n ≡ channel_after (touched_by ch read_rhr) (n - 1)
unfolding channel_after
after_one ch zero some = absurd (omega arith)
after_one ch (suc n) some =
    let fewer : suc n - 1 ≡ n = omega arith in
    rw fewer

replies_one : (ch : Channel) (n : ℕ) → 0 < n → channel_replies ch n ≡ (step_at ch read_rhr).reply ∷ channel_replies (touched_by ch read_rhr) (n - 1)
unfolding channel_replies
replies_one ch zero some = absurd (omega arith)
replies_one ch (suc n) some =
    let fewer : suc n - 1 ≡ n = omega arith in
    rw fewer

-- what was read and what is left to be read from here
pub record Left (first : Channel) (n : ℕ) (part : List ℕ) (ch : Channel) (i : ℕ) : Type 0 where
  pub whole : length part ≡ n
  pub after : channel_after first n ≡ channel_after ch (n - i)
  pub replies : channel_replies first n ≡ take i part ++ channel_replies ch (n - i)

left_all : (ch : Channel) (part : List ℕ) → Left ch (length part) part ch 0
left_all ch part = record { whole = refl; after = rw sub-zero; replies = rw sub-zero }

module _ (first : Channel) (n : ℕ) (part : List ℕ) (ch : Channel) (i : ℕ) (left : Left first n part ch i) where
  -- one more, after which all goes on as after the read
  left_less : i < n → (reply : ℕ) (after : Channel) → reply ≡ (step_at ch read_rhr).reply
      → channel_after (touched_by ch read_rhr) (n - (i + 1)) ≡ channel_after after (n - (i + 1))
      → channel_replies (touched_by ch read_rhr) (n - (i + 1)) ≡ channel_replies after (n - (i + 1))
      → Left first n (set part i reply) after (i + 1)
  left_less some reply after reply_is after_same replies_same =
      let fewer : n - i - 1 ≡ n - (i + 1) = omega arith in
      record {
        whole = length-set part i reply ∙ left.whole;
        after = left.after ∙ after_one ch (n - i) (omega arith) ∙ ap (channel_after (touched_by ch read_rhr)) fewer ∙ after_same;
        replies =
            left.replies ∙ rw (replies_one ch (n - i) (omega arith), fewer, replies_same, ← reply_is)
            (rw (take_more_set part i reply (omega (arith, left.whole)))
            (sym (append_assoc (take i part) (reply ∷ []) (channel_replies after (n - (i + 1))))));
      }

  left_none : n ≤ i → (ch ≡ channel_after first n) × (part ≡ channel_replies first n)
  unfolding channel_after channel_replies
  left_none past =
      let none : n - i ≡ 0 = omega arith in
      let channel : channel_after first n ≡ ch = left.after ∙ ap (channel_after ch) none in
      let replies : channel_replies first n ≡ take i part ++ [] = left.replies ∙ ap (λ k. take i part ++ channel_replies ch k) none in
      (sym channel, sym (replies ∙ append-nil (take i part) ∙ take_all i part (omega (arith, left.whole))))

-- ---- the same once a read was made
pub record Reading (first : Channel) (n : ℕ) (part : List ℕ) (ch : Channel) (i : ℕ) : Type 0 where
  pub well_formed : WellFormed ch
  pub opened : Open ch
  pub calm : Calm ch
  pub left : Left first n part ch i

open_touched : (ch : Channel) → Open ch → Open (touched_by ch read_rhr)
open_touched ch opened = ap (λ s. register_at s 0) (read_keeps_settings ch) ∙ opened

well_formed_taken : (ch : Channel) → WellFormed ch → WellFormed (taken ch)
unfolding after_of takes_from
well_formed_taken ch ok =
    record {
      settings_in = ok.settings_in;
      lines_in = ok.lines_in;
      rx_in = well_formed_after ch.rx (takes_from ch.rx) ok.rx_in (omega arith) (omega (arith, ok.rx_in.count_in));
      bytes_in = ok.bytes_in;
      marks_in = ok.marks_in;
      tx_in = ok.tx_in;
      sent_bytes_in = ok.sent_bytes_in;
      sent_marks_in = ok.sent_marks_in;
    }

pub none_read : (ch : Channel) (part : List ℕ) → length part ≡ 0
    → (ch ≡ channel_after ch (length part)) × (part ≡ channel_replies ch (length part))
none_read ch part none = left_none ch (length part) part ch 0 (left_all ch part) (omega arith)

-- the first read
pub first_read : (ch : Channel) (part : List ℕ) (reply : ℕ) (after : Channel) → WellFormed ch → Open ch → 0 < length part
    → reply ≡ (step_at ch read_rhr).reply → after ≡ touched_by ch read_rhr → Reading ch (length part) (set part 0 reply) after 1
first_read ch part reply after ok opened some reply_is after_is =
    rw after_is
    (record {
      well_formed = well_formed_touched ch read_rhr (omega arith) ok;
      opened = open_touched ch opened;
      calm = calm_touched ch;
      left = left_less ch (length part) part ch 0 (left_all ch part) some reply (touched_by ch read_rhr) reply_is refl refl;
    })

module _ (first : Channel) (n : ℕ) (part : List ℕ) (ch : Channel) (i : ℕ) (so_far : Reading first n part ch i) where
  -- one between two others
  pub read_between : i + 1 < n → (reply : ℕ) (rx : Queue) → reply ≡ (oldest_of ch.rx).byte → rx ≡ after_of ch.rx (takes_from ch.rx)
      → Reading first n (set part i reply) (with_rx ch rx) (i + 1)
  read_between more reply rx reply_is rx_is =
      let others : 0 < n - (i + 1) = omega arith in
      rw rx_is
      (record {
        well_formed = well_formed_taken ch so_far.well_formed;
        opened = so_far.opened;
        calm = calm_taken ch so_far.calm;
        left =
            left_less first n part ch i so_far.left (omega arith) reply (taken ch) (reply_is ∙ sym (read_gives ch so_far.opened))
            (after_taken ch so_far.opened so_far.calm (n - (i + 1)) others) (replies_taken ch so_far.opened so_far.calm (n - (i + 1)) others);
      })

  -- the last
  pub last_read : 0 < n → n - 1 ≡ i → (reply : ℕ) (after : Channel) → reply ≡ (step_at ch read_rhr).reply → after ≡ touched_by ch read_rhr
      → (after ≡ channel_after first n) × (set part (n - 1) reply ≡ channel_replies first n)
  last_read some last reply after reply_is after_is =
      let left = left_less first n part ch i so_far.left (omega arith) reply (touched_by ch read_rhr) reply_is refl refl in
      rw (after_is, last) (left_none first n (set part i reply) (touched_by ch read_rhr) (i + 1) left (omega arith))

  pub all_read : n ≤ i → (ch ≡ channel_after first n) × (part ≡ channel_replies first n)
  all_read = left_none first n part ch i so_far.left

-- what a read gives is a byte
pub read_is_byte : (ch : Channel) → WellFormed ch → (step_at ch read_rhr).reply < 256
unfolding step_at settled_of act_of act_with read_act
read_is_byte ch ok = read_fits ch (register_at ch.settings 0) (shown_at ch (register_at ch.settings 0)) ok
