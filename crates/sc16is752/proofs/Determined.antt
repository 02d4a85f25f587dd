-- Laws: the contracts over a lent record determine their outcome. `clauses` is a contract as the source states it, in any model
-- of memory: where it allows two outcomes for one entry, the results are equal, and so is what is left of the lent record.
use mathlib.Core.Path.{◌≡◌, refl, sym, ap, ◌∙◌}
use Prim.Native.Nat.{ℕ}
use mathlib.Core.List.{List}
use seplogic.Ra.Ura.{Ura}
use base.Logic.{SProp, ent, sep, via, fst∗, snd∗}
use prog.Memory.{Memory}
use prog.Routine.{Routine}
use types.Logic.{Logic, sem}
use contract.Lifetimes.{Lfts}
use contract.Monad.{Fun, conj, conj_l, conj_r, fact, fact_i, fact_use}
use denote.Triple.Entry.{Args, Res}
use denote.Triple.Clauses.{Ended, Clauses, AtExit}
use Rattle.queue.specs.contracts.settle as settle
use Rattle.device.specs.declared.device.Device.{Device}
use Rattle.lent.specs.declared.drains.Drained.{Drained}
use Rattle.lent.specs.Drain.{Emptied, LendsPart}
use Rattle.lent.specs.DrainLaws.{emptied_once}
use Rattle.lent.specs.contracts.advance as advance
use Rattle.lent.specs.contracts.fill as fill
use Rattle.lent.specs.contracts.drain as drain
use Rattle.sc16is752.specs.contracts.sc16is752_new as new
use Rattle.sc16is752.specs.contracts.sc16is752_step as step
use Rattle.sc16is752.specs.contracts.sc16is752_drain as drain_c

module _ {M : Type 1} (𝓤 : Ura M) where
  abbrev Determined : (T : Ended) → Clauses 𝓤 T → {S : Type 0} → ((κs : Lfts T.signature.lifetimes) → AtExit T κs → S) → Type 1
  Determined T c lent =
      (κs : Lfts T.signature.lifetimes) (a : Args T.signature κs) (g : (c κs a).ghost) (r r' : Res T.signature κs) (e e' : AtExit T κs)
      → ent 𝓤 (conj 𝓤 ((c κs a).ensures g r e) ((c κs a).ensures g r' e')) (fact 𝓤 ((r ≡ r') × (lent κs e ≡ lent κs e')))

  from_both : {φ ψ χ : Type 0} → (φ → ψ → χ) → ent 𝓤 (conj 𝓤 (fact 𝓤 φ) (fact 𝓤 ψ)) (fact 𝓤 χ)
  from_both {φ} {ψ} {χ} h =
      fact_use 𝓤 φ (conj_l 𝓤 (fact 𝓤 φ) (fact 𝓤 ψ)) (λ p.
      fact_use 𝓤 ψ (conj_r 𝓤 (fact 𝓤 φ) (fact 𝓤 ψ)) (λ q. fact_i 𝓤 χ (conj 𝓤 (fact 𝓤 φ) (fact 𝓤 ψ)) (h p q)))

  module _ (𝓛 : Logic 𝓤) (at_mem : Memory → SProp 𝓤) (run : Routine → Fun 𝓤) where
    pub settle_determined : Determined settle.ended (settle.clauses 𝓛 at_mem run) (λ κs e. e.0.now)
    settle_determined κs a g r r' e e' = from_both (λ p q. (refl, p ∙ sym q))

    pub advance_determined : Determined advance.ended (advance.clauses 𝓛 at_mem run) (λ κs e. e.0.now)
    advance_determined κs a g r r' e e' = from_both (λ p q. (p.0 ∙ sym q.0, p.1 ∙ sym q.1))

    pub new_determined : Determined new.ended (new.clauses 𝓛 at_mem run) (λ κs e. e.0.now)
    new_determined κs a g r r' e e' = from_both (λ p q. (refl, p ∙ sym q))

    pub step_determined : Determined step.ended (step.clauses 𝓛 at_mem run) (λ κs e. e.0.now)
    step_determined κs a g r r' e e' = from_both (λ p q. (p.0 ∙ sym q.0, p.1 ∙ sym q.1))

    -- a drain: the record, the count and the whole buffer
    drained_alike : {before : Device} {channel most : ℕ} {buffer filled another : List ℕ} {after later : Device} {r r' : ℕ}
        → Emptied before channel most buffer (record { device = after; count = r }) filled
        → Emptied before channel most buffer (record { device = later; count = r' }) another
        → (r ≡ r') × ◌≡◌ {A = Device × List ℕ} (after, filled) (later, another)
    drained_alike p q =
        let same = emptied_once p q in
        (ap (λ (left : Drained). left.count) same.0, rw (ap (λ (left : Drained). left.device) same.0, same.1))

    pub fill_determined :
        Determined fill.ended (fill.clauses 𝓛 at_mem run) {S = Device × List ℕ} (λ κs e. (e.0.now, e.1.1.1.0.now))
    fill_determined κs a g r r' e e' = from_both drained_alike

    pub sc16is752_drain_determined :
        Determined drain_c.ended (drain_c.clauses 𝓛 at_mem run) {S = Device × List ℕ} (λ κs e. (e.0.now, e.1.1.1.0.now))
    sc16is752_drain_determined κs a g r r' e e' = from_both drained_alike

    -- the part that a drain hands back: where it lies, what it holds, and the record; what the buffer ends as is a function of what the
    -- caller leaves there (`LendsPart`)
    part_shown : (P : SProp 𝓤) {φ ψ χ : Type 0}
        → ent 𝓤 (sep 𝓤 P (sep 𝓤 (fact 𝓤 φ) (sep 𝓤 (fact 𝓤 ψ) (fact 𝓤 χ)))) (fact 𝓤 (φ × ψ × χ))
    part_shown P {φ} {ψ} {χ} =
        let last = sep 𝓤 (fact 𝓤 ψ) (fact 𝓤 χ) in
        let plain = sep 𝓤 (fact 𝓤 φ) last in
        let shown = snd∗ 𝓤 P plain in
        let lasts = via 𝓤 plain shown (snd∗ 𝓤 (fact 𝓤 φ) last) in
        fact_use 𝓤 φ (via 𝓤 plain shown (fst∗ 𝓤 (fact 𝓤 φ) last)) (λ one.
        fact_use 𝓤 ψ (via 𝓤 last lasts (fst∗ 𝓤 (fact 𝓤 ψ) (fact 𝓤 χ))) (λ two.
        fact_use 𝓤 χ (via 𝓤 last lasts (snd∗ 𝓤 (fact 𝓤 ψ) (fact 𝓤 χ))) (λ three.
        fact_i 𝓤 (φ × ψ × χ) (sep 𝓤 P plain) (one, two, three))))

    module _ (κs : Lfts drain.ended.signature.lifetimes) (a : Args drain.ended.signature κs) where
      abbrev Part : Type 0
      Part = Res drain.ended.signature κs

      abbrev drained : Part → AtExit drain.ended κs → SProp 𝓤
      drained r e = (drain.clauses 𝓛 at_mem run κs a).ensures tt r e

      abbrev stays : Part → SProp 𝓤
      stays r = sem 𝓛 (LendsPart a.0.now a.1.0 a.1.1.0 a.1.1.1.0 r)

      pub drain_determined : (r r' : Part) (e e' : AtExit drain.ended κs)
          → ent 𝓤 (conj 𝓤 (drained r e) (drained r' e')) (fact 𝓤 ((r.now ≡ r'.now) × (r.ref_ptr ≡ r'.ref_ptr) × (e.0.now ≡ e'.0.now)))
      drain_determined r r' e e' =
          let one = drained r e in
          let two = drained r' e' in
          fact_use 𝓤 _ (via 𝓤 one (conj_l 𝓤 one two) (part_shown (stays r))) (λ p.
          fact_use 𝓤 _ (via 𝓤 two (conj_r 𝓤 one two) (part_shown (stays r'))) (λ q.
          fact_i 𝓤 _ (conj 𝓤 one two) (p.0 ∙ sym q.0, p.1 ∙ sym q.1, p.2 ∙ sym q.2)))
