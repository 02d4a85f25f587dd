-- For proofs alone: bytes behind a `&mut` that are lent to a call and of which the first are then handed on, and what the borrow ends as.
--     lends        the bytes lent under a name of their own, and what is kept of the borrow meanwhile
--     hands_on     the loan over, with the bytes that it left: the first so many handed on, the rest kept behind them
use mathlib.Core.Path.{◌≡◌, refl, sym}
use Prim.Native.Nat.{ℕ, ◌≤◌}
use native.Mathlib.Omega.{arith}
use mathlib.Core.List.{List, [], ◌∷◌, ◌++◌}
use lib.ListN.{length, take, drop as drop_list, take-append-drop, length-drop, length-append}
use seplogic.Ra.Ura.{Ura}
use mir.Syntax.{named}
use mir.Val.{Val}
use base.Logic.{SProp, ent, sep, ex}
use base.Stored.{Gv, coded_list}
use base.Fml.{Fml, Lft, GName, Share, fobs, fauth, fbor, fobor, fdead, flent, flft}
use types.Logic.{Logic, sem}
use types.Kit.{Item, ‵, ◌⊛◌, later, some, ◌$◌, ◌∵◌, !, qed, move, drop, split, split3, fsplit, fsplit3, fjoin, feq_l, feq_i, use1, use2, use3, await, pick, rewrite, updating, group, now, show, done}
use types.SemTy.{cells, Arr, Body}
use types.Follow.{takes_part}
use types.Mut.{open_ref}
use denote.Array.{Array}
use denote.Builtin.{u8}
use denote.Follow.{follows}
use denote.FollowSlice.{heres_id, slice_of}
use denote.Lend.{lends_slice, slice_back, Held}
use denote.Memory.{mem}
use denote.Slice.{MutSlice, Room, slice_val, finally}
use borrow.Table.Elements.{at, cut_app, join_app, length-take-le}

module _ {M : Type 1} {𝓤 : Ura M} (𝓛 : Logic 𝓤) (κ : Lft) (q : Share) (b o : ℕ) (γ : GName) (xs : List ℕ) where
  open 𝓛 use {H, A}

  abbrev code_of : List ℕ → Gv
  code_of ys = (coded_list u8.coded).code ys

  abbrev slice : Lft → GName → List ℕ → List Val → Fml
  slice κ' δ ys vs = (MutSlice (named 1) κ' u8).own_val (record { ref_ptr = (b, o); ghost_name = δ; now = ys }) vs

  abbrev slice_at : Lft → GName → List ℕ → Fml
  slice_at κ' δ ys = slice κ' δ ys (slice_val (b, o) (length ys) ∷ [])

  -- as many bytes as there are behind the borrow, where they lie
  abbrev whole : List ℕ → Fml
  whole ys = (Arr (mem u8) (length xs)).own_at ys b o

  abbrev loan : Lft → GName → Fml
  loan α δ = flent α (Held u8 (length xs) b o δ)

  -- what is kept of the borrow while it is open
  abbrev kept : Item 𝓤
  kept = ‵ (fobor κ q (Body (Arr (mem u8) (length xs)) b o γ)) ⊛ ‵ (fobs γ (code_of xs)) ⊛ ‵ (fauth γ (code_of xs))

  abbrev Kept : SProp 𝓤
  Kept = sep 𝓤 (A.obor κ q (Body (Arr (mem u8) (length xs)) b o γ)) (sep 𝓤 (A.obs γ (code_of xs)) (A.auth γ (code_of xs)))

  -- lent to a call
  module _ (α : Lft) where
    abbrev pub lent : GName → Item 𝓤
    lent δ = ‵ (slice_at α δ xs) ⊛ ‵ (loan α δ) ⊛ kept

    abbrev pub Lent : GName → SProp 𝓤
    Lent δ = sep 𝓤 (sem 𝓛 (slice_at α δ xs)) (sep 𝓤 (sem 𝓛 (loan α δ)) Kept)

    pub lends : Room u8 (length xs) → (vs : List Val) → ent 𝓤 (sep 𝓤 (sem 𝓛 (slice κ γ xs vs)) (A.lft κ q)) (H.⇛ (ex 𝓤 Lent))
    lends room vs =
        qed 𝓛 (‵ (slice κ γ xs vs) ∷ ‵ (flft κ q) ∷ []) ∵ updating ! $ fsplit3 ! $ drop ! $
        rewrite ! 0 (λ (l : List ℕ). ‵ (fobs γ (code_of l))) (heres_id u8 xs) refl $
        open_ref ! tt (Arr (mem u8) (length xs)) {b = b} {o = o} $ fsplit ! $ drop ! $
        use1 𝓛 (later (some (λ (δ : GName). ‵ (slice_at α δ xs) ⊛ ‵ (loan α δ)))) (lends_slice 𝓛 u8 (named 1) α xs b o room) $
        await ! tt $ pick ! (λ δ. split ! $ now ! $ show ! Lent δ $ done !)

  -- and back with the bytes `ys`: their first `k` are the part that is handed on
  module _ (α : Lft) (δ : GName) (ys : List ℕ) (k : ℕ) (within : k ≤ length ys) (same : length ys ≡ length xs) where
    abbrev first : List ℕ
    first = take k ys

    abbrev rest : List ℕ
    rest = drop_list k ys

    abbrev joined : List ℕ → List ℕ
    joined ws = ws ++ rest

    abbrev front_at : List ℕ → Fml
    front_at ws = (Arr (mem u8) (length first)).own_at ws b o

    abbrev rest_past : ℕ → Fml
    rest_past n = cells (mem u8) rest b (at o (mem u8).size n)

    put_back : (ws : List ℕ) → ent 𝓤 (sep 𝓤 (sem 𝓛 (front_at ws)) (sem 𝓛 (rest_past (length first)))) (sem 𝓛 (whole (joined ws)))
    put_back ws =
        qed 𝓛 (‵ (front_at ws) ∷ ‵ (rest_past (length first)) ∷ []) ∵ fsplit ! $ feq_l ! (λ e.
        let count : length first ≡ k = length-take-le k ys within in
        let both = length-append ws rest in
        let left = length-drop k ys in
        rewrite ! 1 (λ (n : ℕ). ‵ (rest_past n)) (sym e) refl $
        use2 𝓛 (‵ (cells (mem u8) (joined ws) b o)) (join_app 𝓛 (mem u8) ws rest b o) $
        feq_i ! ℕ (length (joined ws)) (length xs) (omega arith) $ fjoin ! $ done !)

    abbrev ends : GName → Fml
    ends ε = follows (Array u8 0) (Array u8 0) γ ε joined

    abbrev pub handed : GName → Item 𝓤
    handed ε = ‵ (slice_at κ ε first) ⊛ ‵ (flft κ q) ⊛ ‵ (ends ε)

    abbrev pub Handed : GName → SProp 𝓤
    Handed ε = sep 𝓤 (sem 𝓛 (slice_at κ ε first)) (sep 𝓤 (A.lft κ q) (sem 𝓛 (ends ε)))

    abbrev Back : SProp 𝓤
    Back = sep 𝓤 (A.dead α) (sep 𝓤 (sem 𝓛 (loan α δ)) (sep 𝓤 (sem 𝓛 (finally u8 δ ys)) Kept))

    pub hands_on : Room u8 (length first) → ent 𝓤 Back (H.⇛ (ex 𝓤 Handed))
    hands_on room =
        qed 𝓛 (‵ (fdead α) ∷ ‵ (loan α δ) ∷ ‵ (finally u8 δ ys) ∷ kept ∷ []) ∵ updating ! $
        use3 𝓛 (later (‵ (whole ys))) (slice_back 𝓛 u8 α δ ys (length xs) b o) $ await ! tt $ fsplit ! $ drop ! $
        rewrite ! 0 (λ (l : List ℕ). ‵ (cells (mem u8) l b o)) (sym (take-append-drop k ys)) refl $
        use1 𝓛 (‵ (cells (mem u8) first b o) ⊛ ‵ (rest_past (length first))) (cut_app 𝓛 (mem u8) first rest b o) $ split ! $
        feq_i ! ℕ (length first) (length first) refl $ fjoin ! $ move ! (2 ∷ []) $ split3 ! $ move ! (0 ∷ 1 ∷ 2 ∷ 3 ∷ 4 ∷ []) $ group ! 5 $
        use1 𝓛
        (later (some (λ (ε : GName). ‵ (fobs ε (code_of first)) ⊛ ‵ (fbor κ (Body (Arr (mem u8) (length first)) b o ε)) ⊛ ‵ (flft κ q) ⊛ ‵ (ends ε))))
        (takes_part 𝓛 (Arr (mem u8) (length xs)) (Arr (mem u8) (length first)) joined κ q b o b o γ
        (sem 𝓛 (rest_past (length first))) put_back (code_of xs) (code_of xs) first) $ await ! tt $ pick ! (λ ε. split3 ! $
        use2 𝓛 (‵ (slice_at κ ε first)) (slice_of 𝓛 u8 (named 1) κ b o ε first room) $ now ! $ show ! Handed ε $ done !)
