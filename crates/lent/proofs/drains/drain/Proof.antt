-- `drain` lends the record and the buffer to `fill`, and hands on the front of the buffer: by hand, since the kit shows no clause on what
-- a slice ends as of which a part is handed on.
use mathlib.Core.Path.{◌≡◌, refl, ap}
use Prim.Native.Nat.{ℕ, ◌<◌, ◌≤◌, ◌^◌}
use native.Mathlib.Omega.{arith}
use mathlib.Core.List.{List, [], ◌∷◌, ◌++◌}
use lib.ListN.{length, take}
use mir.Syntax.{named, w64}
use mir.Val.{vint}
use base.Fraction.{full_share}
use base.Logic.{id⊢}
use base.Fml.{Lft, ftrue, flft}
use types.Kit.{‵, ◌⊛◌, raw, later, some, ◌$◌, ◌∵◌, !, qed, by, move, keep, drop, split, split3, join, fsplit, fsplit3, fjoin, feq_l, use0, use1, use2, use3, await, pick, rewrite, suffices, frame, group}
use types.Part.{agg, whole, sub}
use types.Run.{stop, fld, hop, from, addr, and_then, no_more, returns, enter}
use types.ByLocal.{alloc_all, pass_all, free_all, look_at, look_in_at, get, get_in, through, sets, lands_as}
use types.Tokens.{lft_new, lft_end}
use contract.Monad.{fact, fact_i}
use contract.Running.{tables}
use denote.Array.{Array}
use denote.Builtin.{u8, u64, usize}
use denote.Exit.{yes, no}
use denote.Follow.{follows}
use denote.Laws.{shows}
use denote.Lend.{lends_again, comes_back, LentAgain}
use denote.Plain.{uint_vals, uint_Tells, uint_Makes}
use denote.Ref.{MutBor, MutRef, mut_vals, mut_Tells}
use denote.Signature.{plain, mut_slice_of}
use denote.Slice.{MutSlice, Room, slice_val, mut_slice_vals, mut_slice_Tells}
use denote.Steps.{nothing, heard, only, owned, peeks}
use denote.Triple.Call.{calls_at}
use denote.Triple.Clauses.{lasts}
use denote.Triple.Spec.{triple_of}
use denote.Triple.Table.{framed}
use denote.Triple.Walked.{says, Stays, stay_dropped, stay_ref, walk_of, ends_at, Goes-dropped, Goes-ref, Goes-spent_slice}
use borrow.Table.Elements.{length-take-le}
use Rattle.std.proofs.raw_atomic.Walks.{proved}
use Rattle.device.specs.declared.device.Device.{Device}
use Rattle.device.specs.contracts.device.Device.{the_row}
use Rattle.device.specs.Device.{WellFormed}
use Rattle.lent.specs.declared.drains.Drained.{Drained}
use Rattle.lent.specs.Drain.{part_of, Emptied}
use Rattle.lent.proofs.Emptied.{in_front, behind, count_within, device_left}
use Rattle.lent.proofs.HandedOn.{lent, lends, handed, hands_on}
use Rattle.lent.specs.contracts.drains.drain as f
use Rattle.lent.specs.contracts.drains.fill as g
use Rattle.lent.proofs.drains.fill.Met.{met}
use Rattle.lent.proofs.drains.drain.Statement.{statement}
use Rattle.lent.proofs.drains.drain.Code as code

abbrev stayed : Stays f.ended.signature.params f.ended.kept
stayed = (
  stay_ref (0 ∷ []) tt (plain (λ _. the_row)),
  (
    stay_dropped (plain (λ _. u64)) yes,
    (
      stay_dropped (plain (λ _. u64)) yes,
      (stay_dropped (mut_slice_of (1 ∷ []) tt (plain (λ _. u8))) no, tt),
    ),
  ),
)

pub drain_spec : {M : Type 1} → statement M
drain_spec 𝓤 𝓛 𝓜 𝓡 wired =
    let c = f.clauses 𝓛 𝓜.mem 𝓡.returns in let W = walk_of 𝓛 f.ended stayed c in
    let number = Goes-dropped 𝓛 2 (plain (λ _. u64)) yes (λ κs x w. refl) in
    let bytes = Goes-spent_slice 𝓛 2 (1 ∷ []) tt (plain (λ _. u8)) in
    proved 𝓛 f.ended stayed c 𝓜 𝓡 (Goes-ref 𝓛 2 0 tt (plain (λ _. the_row)), (number, (number, (bytes, tt))))
    f.Key.name code.function (code.unfolded 𝓤 𝓛.H 𝓜 𝓡 wired)
    (λ κs. (mut_vals, (uint_vals w64, (uint_vals w64, (mut_slice_vals, tt)))))
    (λ κs. (mut_Tells (named 0) κs.0 the_row, (uint_Tells w64, (uint_Tells w64, (mut_slice_Tells (named 1) κs.1.0 u8, tt)))))
    (λ κs qs bounds a _ are.
    let κ = κs.0 in let q = qs.0 in let μ = κs.1.0 in let p = qs.1.0 in
    let d = a.0 in let channel = a.1.0 in let most = a.1.1.0 in let s = a.1.1.1.0 in
    let y : W.Ghost = ((κs, qs, bounds, a, (mut_vals d, (vint w64 channel ∷ [], (vint w64 most ∷ [], (mut_slice_vals s, tt))))), tt) in
    let channel_fits : channel < 2 ^ 64 = are.1.0.1 in
    let most_fits : most < 2 ^ 64 = are.1.1.0.1 in
    let room : Room u8 (length s.now) = are.1.1.1.0.0.1 in
    let Ref = λ (κ' : Lft) (r : MutBor Device). (MutRef (named 0) κ' the_row).own_val r (mut_vals d) in
    let Part = λ (θ n : ℕ) (ys : List ℕ). (MutSlice (named 1) μ u8).own_val (record { ref_ptr = s.ref_ptr; ghost_name = θ; now = ys }) (slice_val s.ref_ptr n ∷ []) in
    let Number = λ (n : ℕ). u64.own_val n (vint w64 n ∷ []) in
    qed 𝓛 (((‵ (flft κ q) ⊛ ‵ (flft μ p) ⊛ ‵ ftrue) ⊛ ‵ (Ref κ d) ⊛ ‵ (Number channel) ⊛ ‵ (Number most) ⊛
    ‵ ((MutSlice (named 1) μ u8).own_val s (mut_slice_vals s)) ⊛ ‵ ftrue) ∷ raw (fact 𝓤 (WellFormed d.now)) ∷ []) ∵
    move ! (1 ∷ []) $ heard ! _ (λ well_formed.
    split ! $ split3 ! $ move ! (3 ∷ []) $ split3 ! $ move ! (2 ∷ []) $ split3 ! $ keep ! (3 ∷ 5 ∷ 1 ∷ 6 ∷ []) $
    enter ! _ _ _ _ _ $
    alloc_all ! (λ l. pass_all ! refl
    ((tt, tt), ((tt, record { fits = channel_fits }), ((tt, record { fits = most_fits }), ((tt, (tt, (record { fits = room.0 }, tt))), tt)))) $
    -- [the record; its token; the buffer; its token]
    sets ! (addr ! (through ! refl (stop !))) refl (tt, tt) $
    sets ! (addr ! (from ! (fld ! refl (hop ! (look_in_at ! 4 (sub ! 0 refl (whole !))) (stop !))))) refl (tt, tt) $
    sets ! (agg ! (and_then ! (get ! refl) (and_then ! (get_in ! (fld ! refl (stop !)) (sub ! 1 refl (whole !))) (no_more !)))) refl
    (tt, (tt, (record { fits = room.0 }, tt))) $
    lft_new ! tt (λ α. move ! (1 ∷ 2 ∷ []) $
    use2 𝓛
    (later (some (λ (δ : ℕ). ‵ (Ref (α ∷ []) (record d { ghost_name = δ })) ⊛
    ‵ (LentAgain the_row κ (α ∷ []) q d.ghost_name d.ref_ptr.0 d.ref_ptr.1 δ d.now))))
    (lends_again 𝓛 the_row (named 0) κ (α ∷ []) q d.ghost_name d.ref_ptr.0 d.ref_ptr.1 (named 0) d.now) $
    await ! tt $ pick ! (λ δ. split ! $
    lft_new ! tt (λ β. move ! (4 ∷ 5 ∷ []) $
    use2 𝓛 (later (some (lent 𝓛 μ p s.ref_ptr.0 s.ref_ptr.1 s.ghost_name s.now (β ∷ []))))
    (lends 𝓛 μ p s.ref_ptr.0 s.ref_ptr.1 s.ghost_name s.now (β ∷ []) room (mut_slice_vals s)) $
    await ! tt $ pick ! (λ ε. split3 ! $
    -- [the buffer's loan; what is kept of it, in two; the token of β; the record's loan; what is kept of it; the token of α]
    let G = triple_of 𝓛 g.signature (g.spec 𝓛 𝓜.mem 𝓡.returns) in
    let z : G.Ghost = (
      (
        (α ∷ [], (β ∷ [], tt)),
        (full_share, (full_share, tt)),
        tt,
        (record d { ghost_name = δ }, (channel, (most, (record s { ghost_name = ε }, tt)))),
        y.0.4,
      ),
      tt,
    ) in
    nothing ! $ move ! (1 ∷ 0 ∷ []) $ join ! $ owned ! u64 _ (uint_Makes 𝓛 w64) most _ (refl, most_fits) $ join ! $
    owned ! u64 _ (uint_Makes 𝓛 w64) channel _ (refl, channel_fits) $ join ! $ move ! (4 ∷ 0 ∷ []) $ join ! $
    nothing ! $ move ! (4 ∷ 0 ∷ []) $ join ! $ move ! (5 ∷ 0 ∷ []) $ join ! $ join ! $
    use0 𝓛 (raw (fact 𝓤 (WellFormed d.now))) (fact_i 𝓤 _ _ well_formed) $ move ! (1 ∷ 0 ∷ []) $
    use2 𝓛 (raw (G.pre z)) (id⊢ 𝓤 _) $
    calls_at ! (framed 𝓤 𝓛.H 𝓜 (tables 𝓤 𝓛.H 𝓜 𝓡 𝓡.env)) G
    (met 𝓤 𝓛 𝓜 𝓡 (code.calls-lent::drains::fill 𝓡.env wired)) z
    (and_then ! (get ! refl) (and_then ! (get ! refl) (and_then ! (get ! refl) (and_then ! (get ! refl) (no_more !))))) (λ v.
    use1 𝓛
    (later (some (λ (r : ℕ). ((‵ (flft (α ∷ []) full_share) ⊛ ‵ (flft (β ∷ []) full_share) ⊛ ‵ ftrue) ⊛ ‵ (usize.own_val r (v ∷ []))) ⊛
    some (λ (ws : Device × (Unit {0} × (Unit {0} × (List ℕ × Unit {0})))). ‵ (lasts g.ended z.0.0 z.0.3 ws) ⊛
    raw (fact 𝓤 (Emptied d.now channel most s.now (record { device = ws.0; count = r }) ws.1.1.1.0)))))) (id⊢ 𝓤 _) $
    await ! tt $ pick ! (λ r. split ! $ split ! $ split3 ! $ lft_end ! tt $ move ! (1 ∷ []) $ lft_end ! tt $
    move ! (3 ∷ []) $ peeks ! usize _ (shows 𝓛 usize) r (v ∷ []) (λ is. drop ! $
    lands_as ! (ap only is.0) refl (tt, record { fits = is.1 }) $
    move ! (3 ∷ []) $ pick ! (λ ws. split ! $ move ! (1 ∷ []) $ heard ! _ (λ emptied.
    -- [what the loans leave; the loans are over; nothing; what is kept of the buffer, in two; of the record]
    fsplit3 ! $ move ! (2 ∷ []) $ fsplit3 ! $ move ! (1 ∷ []) $ fsplit ! $ fsplit ! $ move ! (1 ∷ []) $
    feq_l ! (λ same. move ! (4 ∷ []) $ fsplit ! $
    move ! (8 ∷ 12 ∷ 0 ∷ []) $ use3 𝓛 (later (‵ (Ref κ (record d { now = ws.0 })) ⊛ ‵ (flft κ q)))
    (comes_back 𝓛 the_row (named 0) κ (α ∷ []) q d.ghost_name d.ref_ptr.0 d.ref_ptr.1 δ d.now ws.0) $ await ! tt $ split ! $
    let ys = ws.1.1.1.0 in let left : Drained = record { device = ws.0; count = r } in
    let fits : r ≤ length s.now = count_within d.now channel most s.now ys left emptied in
    let within : r ≤ length ys = omega (arith, same) in
    let count : length (take r ys) ≡ r = length-take-le r ys within in
    move ! (8 ∷ 10 ∷ 3 ∷ 11 ∷ []) $ group ! 4 $
    use1 𝓛 (later (some (handed 𝓛 μ p s.ref_ptr.0 s.ref_ptr.1 s.ghost_name s.now (β ∷ []) ε ys r within same)))
    (hands_on 𝓛 μ p s.ref_ptr.0 s.ref_ptr.1 s.ghost_name s.now (β ∷ []) ε ys r within same (omega arith, omega arith)) $
    await ! tt $ pick ! (λ θ.
    sets ! (addr ! (from ! (fld ! refl (hop ! (look_in_at ! 4 (sub ! 0 refl (whole !))) (stop !))))) refl (tt, tt) $
    sets ! (agg ! (and_then ! (get ! refl) (and_then ! (get ! refl) (no_more !)))) refl (tt, (tt, (record { fits = is.1 }, tt))) $
    returns ! (look_at ! 0 refl) $ free_all ! refl $ keep ! (0 ∷ 1 ∷ 2 ∷ []) $ split3 ! $
    -- [the part; the buffer's token; what the buffer ends as; the record; its token]
    rewrite ! 0 (λ (n : ℕ). ‵ (Part θ n (take r ys))) count refl $
    rewrite ! 2 (λ (l : List ℕ). ‵ (follows (Array u8 0) (Array u8 0) s.ghost_name θ (λ left. left ++ l)))
    (behind d.now channel most s.now ys left emptied) refl $
    suffices ! _ (ends_at 𝓛 f.ended stayed c y (slice_val s.ref_ptr r) (record { ref_ptr = s.ref_ptr; ghost_name = θ; now = take r ys })
    (ws.0, (tt, (tt, (tt, tt)))) (tt, (tt, (tt, (tt, tt))))) $
    nothing ! $ nothing ! $ fjoin ! $ nothing ! $ fjoin ! $ nothing ! $ fjoin ! $ move ! (4 ∷ 0 ∷ []) $ fjoin ! $ join ! $
    nothing ! $ move ! (2 ∷ 0 ∷ []) $ join ! $ move ! (3 ∷ 0 ∷ []) $ join ! $ join ! $ frame ! $ frame ! $
    use0 𝓛 (raw (fact 𝓤 (take r ys ≡ part_of d.now channel most (length s.now))))
    (fact_i 𝓤 _ _ (in_front d.now channel most s.now ys left emptied)) $ frame ! $
    says ! (device_left d.now channel most s.now ys left emptied) $ by ! (fact_i 𝓤 _ _ refl)))))))))))))))
