-- `feed` reads through a shorter loan of the client, and then lends what `got` shows of it for good.
use Rattle.std.proofs.Common.{◌≡◌, ◌≤◌, ◌<◌, ℕ, List, [], ◌∷◌, length, take, option_map, refl, sym, subst, MutBor}
use Rattle.std.proofs.raw_atomic.Walks.{proved}
use Rattle.std.specs.Io.BufRead.{Rests}
use base.Fraction.{full_share}
use base.Logic.{id⊢, emp}
use base.Fml.{ftrue, flft, fobs, fbor}
use contract.BorrowLft.{⊑_static, ⊑_refl}
use contract.Monad.{fact, fact_i}
use contract.Running.{tables}
use denote.Builtin.{u8, SliceRefOf}
use denote.Exit.{no, yes}
use denote.Laws.{shows}
use denote.Lend.{lends_again, comes_back, LentAgain}
use denote.Memory.{mem, part_at, hidden_shr}
use denote.Ref.{MutRef, Bor, mut_vals, mut_Tells}
use denote.Shares.{settles}
use denote.Signature.{plain, named_lft}
use denote.Slice.{ShrSlice, shr_slice_vals, shr_slice_Tells, shr_slice_Lawful}
use denote.Steps.{nothing, heard, peeks}
use denote.Triple.Call.{calls_at}
use denote.Triple.Clauses.{Lasts, lasts}
use denote.Triple.Spec.{triple_of}
use denote.Triple.Table.{framed}
use denote.Triple.Walked.{Stays, stay_dropped, Goes-dropped, Goes-spent_ref, ends_at}
use ghost.Rules.{Toks}
use mir.Syntax.{named}
use mir.Val.{Val, vptr}
use types.ByLocal.{alloc_all, pass_all, free_all, look_at, get, through, sets, lands_as}
use types.Kit.{‵, raw, ◌⊛◌, some, later, ◌$◌, ◌∵◌, !, qed, done, move, keep, use0, use1, use2, use3, split, join, fsplit, fsplit3, fjoin, feq_i, pick, await, suffices, group}
use types.Logic.{lfts}
use types.Run.{enter, addr, stop, no_more, and_then, returns}
use types.Tokens.{lft_new, lft_end, name_done}
use Rattle.fibs_session.specs.History.Machine.{Piece}
use Rattle.fibs_session.specs.Calls.Doing.{Does}
use Rattle.fibs_session.specs.Calls.Feeding.{ReadsPiece, Shows, Keeps, FeedAnswers, commands_of}
use Rattle.fibs_session.specs.Calls.SessionOf.{taken_of}
use Rattle.fibs_session.specs.contracts.client.Client.{the_row as R}
use Rattle.fibs_session.specs.contracts.client.heard_line.HeardLine.{the_row as H}
use Rattle.fibs_session.specs.contracts.client.got.Got as got-type
use Rattle.fibs_session.proofs.client.Client.TheLaws as client-laws
use Rattle.fibs_session.proofs.client.heard_line.HeardLine.TheLaws as heard-laws
use Rattle.fibs_session.proofs.client.got.Got.TheLaws as got-laws
use Rattle.fibs_session.specs.contracts.client.Client.feed as f
use Rattle.fibs_session.proofs.client.Client.feed.Statement.{statement}
use Rattle.fibs_session.proofs.client.Client.feed.Code as code
use Rattle.fibs_session.specs.contracts.client.Client.take_piece as g
use Rattle.fibs_session.proofs.client.Client.take_piece.Met as g-met
use Rattle.fibs_session.specs.contracts.client.Client.got as h
use Rattle.fibs_session.proofs.client.Client.got.Met as h-met
use Rattle.fibs_session.proofs.Calls.ReadLaws.{read_keeps, feed_does, feed_answers}
use Rattle.fibs_session.proofs.Calls.Resting.{rests_at}

abbrev stayed : Stays f.ended.signature.params f.ended.kept
stayed = (stay_dropped _ no, (stay_dropped _ yes, tt))

pub feed_spec : {M : Type 1} → statement M
feed_spec 𝓤 𝓛 𝓜 𝓡 wired =
    let c = f.clauses 𝓛 𝓜.mem 𝓡.returns in
    let run = framed 𝓤 𝓛.H 𝓜 (tables 𝓤 𝓛.H 𝓜 𝓡 𝓡.env) in
    proved 𝓛 f.ended stayed c 𝓜 𝓡 (
      Goes-spent_ref 𝓛 2 (0 ∷ []) tt (plain (λ _. R)),
      (Goes-dropped 𝓛 2 (SliceRefOf (1 ∷ []) tt (plain (λ _. u8)) (λ _. tt)) yes (λ κs x w. refl), tt),
    )
    f.Key.name code.function (code.unfolded 𝓤 𝓛.H 𝓜 𝓡 wired)
    (λ κs. (mut_vals, (shr_slice_vals, tt)))
    (λ κs. (mut_Tells (named 0) κs.0 R, (shr_slice_Tells (named 1) κs.1.0 u8, tt))) (λ κs qs bounds a _ are.
    let κ = κs.0 in let q = qs.0 in let κ' = κs.1.0 in let q' = qs.1.0 in
    let r = a.0 in let piece = a.1.0 in let b = r.ref_ptr.0 in let o = r.ref_ptr.1 in
    let vs = mut_vals r in let ps = shr_slice_vals piece in
    let Ref = λ (λ' : List ℕ) (x : MutBor R.Denot). (MutRef (named 0) λ' R).own_val x vs in
    qed 𝓛 (((‵ (flft κ q) ⊛ ‵ (flft κ' q') ⊛ ‵ ftrue)
    ⊛ ‵ (Ref κ r) ⊛ ‵ ((ShrSlice (named 1) κ' u8).own_val piece ps) ⊛ ‵ ftrue) ∷ ‵ ftrue ∷ []) ∵
    split ! $ split ! $
    move ! (1 ∷ []) $ split ! $ move ! (3 ∷ []) $ split ! $ move ! (1 ∷ []) $ split ! $ keep ! (2 ∷ 5 ∷ 3 ∷ 0 ∷ []) $
    enter ! _ _ _ _ _ $
    alloc_all ! (λ l. pass_all ! refl ((tt, tt), ((shr_slice_Lawful 𝓛 (named 1) κ' u8).typed piece ps are.1.0)) $
    -- [self; its token; the piece's token; the piece]
    sets ! (addr ! (through ! refl (stop !))) refl (tt, tt) $
    lft_new ! tt (λ α. move ! (1 ∷ 2 ∷ []) $
    use2 𝓛 (later (some (λ (δ : ℕ). ‵ (Ref (α ∷ []) (record r { ghost_name = δ }))
    ⊛ ‵ (LentAgain R κ (α ∷ []) q r.ghost_name b o δ r.now))))
    (lends_again 𝓛 R (named 0) κ (α ∷ []) q r.ghost_name b o (named 0) r.now) $ await ! tt $ pick ! (λ δ. split ! $
    -- [the loan; what the lender keeps; the loan's token; the piece's token; the piece]
    let C = triple_of 𝓛 g.signature (g.spec 𝓛 𝓜.mem 𝓡.returns) in
    let z : C.Ghost = (
      (
        (α ∷ [], (κ', tt)),
        (full_share, (q', tt)),
        tt,
        (record r { ghost_name = δ }, (piece, tt)),
        (vs, (ps, tt)),
      ),
      tt,
    ) in
    nothing ! $ move ! (5 ∷ 0 ∷ []) $ join ! $ move ! (1 ∷ 0 ∷ []) $ join ! $
    nothing ! $ move ! (4 ∷ 0 ∷ []) $ join ! $ move ! (3 ∷ 0 ∷ []) $ join ! $ join ! $
    nothing ! $ move ! (1 ∷ 0 ∷ []) $ use2 𝓛 (raw (C.pre z)) (id⊢ 𝓤 _) $
    calls_at ! run C (g-met.met 𝓤 𝓛 𝓜 𝓡 (code.calls-fibs_session::client::Client::take_piece 𝓡.env wired)) z
    (and_then ! (get ! refl) (and_then ! (get ! refl) (no_more !))) (λ v.
    use1 𝓛 (later (some (λ (e : H.Denot).
    ((‵ (flft (α ∷ []) full_share) ⊛ ‵ (flft κ' q') ⊛ ‵ ftrue) ⊛ ‵ (H.own_val e (v ∷ []))) ⊛
    some (λ (ws : Lasts g.ended z.0.0 z.0.3). ‵ (lasts g.ended z.0.0 z.0.3 ws)
    ⊛ raw (fact 𝓤 (e.used ≤ length piece.now)) ⊛ raw (fact 𝓤 (0 < length piece.now → 0 < e.used))
    ⊛ raw (fact 𝓤 (ReadsPiece r.now ws.0 piece.now e)))))) (id⊢ 𝓤 _) $
    await ! tt $ pick !
    (λ e. split ! $ split ! $ split ! $ lft_end ! tt $ move ! (2 ∷ []) $ peeks ! H _ (shows 𝓛 H) e (v ∷ []) (λ is.
    lands_as ! refl refl (((heard-laws.the_row_laws).lawful 𝓛).typed e (v ∷ []) is).0 $
    move ! (3 ∷ []) $ pick ! (λ ws. split ! $ move ! (1 ∷ []) $
    split ! $ heard ! _ (λ in_range. split ! $ heard ! _ (λ progress. heard ! _ (λ reads. fsplit ! $ fsplit ! $
    -- [the loan's last value; its borrow; nothing; what was read; the loan is over; the piece's token; what the lender
    -- keeps]
    let m = ws.0 in
    move ! (4 ∷ 6 ∷ 0 ∷ []) $ use3 𝓛 (later (‵ (Ref κ (record r { now = m })) ⊛ ‵ (flft κ q)))
    (comes_back 𝓛 R (named 0) κ (α ∷ []) q r.ghost_name b o δ r.now m) $ await ! tt $ split ! $
    -- self is settled at what it shows, and shared for the rest of its lifetime
    let ts : Toks = (κ, q) ∷ [] in
    fsplit3 ! $ move ! (1 ∷ 2 ∷ 3 ∷ []) $
    use3 𝓛
    (later (‵ (fobs r.ghost_name (R.coded.code m)) ⊛ (‵ (fbor κ (part_at R full_share m b o)) ⊛ raw (lfts 𝓛 ts))))
    (settles 𝓛 (mem R) κ ts (⊑_refl κ) r.ghost_name m b o) $ await ! tt $
    split ! $ name_done ! tt $ move ! (1 ∷ []) $
    use1 𝓛 (later (‵ (hidden_shr R κ m b o) ⊛ raw (lfts 𝓛 ts)))
    ((client-laws.the_row_laws).shares 𝓛 m κ ts b o (⊑_static κ) (⊑_refl κ)) $ await ! tt $ split ! $
    feq_i ! (List Val) vs (vptr b o ∷ []) refl $ fjoin ! $
    -- [the `&`; its token; the last value; self's place; the loan's borrow; nothing; what was read; the piece's token]
    sets ! (addr ! (through ! refl (stop !))) refl (tt, tt) $
    let D = triple_of 𝓛 h.signature (h.spec 𝓛 𝓜.mem 𝓡.returns) in
    let x : Bor R.Denot = record { ref_ptr = r.ref_ptr; now = m } in
    let y : D.Ghost = (((κ, tt), (q, tt), tt, (x, (e, tt)), (vs, (v ∷ [], tt))), tt) in
    nothing ! $
    move ! (7 ∷ 0 ∷ []) $ join ! $ move ! (1 ∷ 0 ∷ []) $ join ! $ nothing ! $ move ! (2 ∷ 0 ∷ []) $ join ! $ join ! $
    nothing ! $ move ! (1 ∷ 0 ∷ []) $ use2 𝓛 (raw (D.pre y)) (id⊢ 𝓤 _) $
    calls_at ! run D (h-met.met 𝓤 𝓛 𝓜 𝓡 (code.calls-fibs_session::client::Client::got 𝓡.env wired)) y
    (and_then ! (get ! refl) (and_then ! (get ! refl) (no_more !))) (λ w.
    let lft = named_lft 2 0 tt κs in
    let G = got-type.the_row lft in
    use1 𝓛 (later (some (λ (t : G.Denot). ((‵ (flft κ q) ⊛ ‵ ftrue) ⊛ ‵ (G.own_val t (w ∷ []))) ⊛
    some (λ (es : Lasts h.ended y.0.0 y.0.3). ‵ (lasts h.ended y.0.0 y.0.3 es) ⊛ raw (fact 𝓤 (t.used ≡ e.used))
    ⊛ raw (fact 𝓤 (Keeps m e → Shows m e (option_map taken_of t.taken))))))) (id⊢ 𝓤 _) $
    await ! tt $ pick ! (λ t. split ! $ split ! $ move ! (1 ∷ []) $ peeks ! G _ (shows 𝓛 G) t (w ∷ []) (λ is'.
    lands_as ! refl refl (((got-laws.the_row_laws lft).lawful 𝓛).typed t (w ∷ []) is').0 $
    move ! (2 ∷ []) $ pick ! (λ es. split ! $ move ! (1 ∷ []) $ split ! $ heard ! _ (λ same. heard ! _ (λ if_shown.
    returns ! (look_at ! 0 refl) $ free_all ! refl $
    keep ! (2 ∷ 3 ∷ 1 ∷ 7 ∷ []) $ split ! $ keep ! (2 ∷ 0 ∷ 3 ∷ 4 ∷ []) $
    -- [the last value; self's token; the answer; the piece's token]
    suffices !
    _ (ends_at 𝓛 f.ended stayed c ((κs, qs, bounds, a, (vs, (ps, tt))), tt) w t (tt, (tt, tt)) (tt, (tt, tt))) $
    let shown = if_shown (read_keeps r.now m piece.now e reads) in
    let u = option_map taken_of t.taken in
    let P : R.Denot → Type 0 = λ new. Does r.now new (Piece (take t.used piece.now)) (commands_of u) in
    use1 𝓛 (‵ (Rests R r P)) (rests_at 𝓛 R r P m (feed_does r.now m piece.now e reads t.used same u shown)) $
    use0 𝓛 (raw (fact 𝓤 (FeedAnswers r.now piece.now t.used u)))
    (fact_i 𝓤 _ (emp 𝓤) (feed_answers r.now m piece.now e reads t.used same u shown)) $ join ! $
    use0 𝓛 (raw (fact 𝓤 (0 < length piece.now → 0 < t.used)))
    (fact_i 𝓤 _ (emp 𝓤) (λ some_bytes. subst (λ n. 0 < n) (sym same) (progress some_bytes))) $ join ! $
    use0 𝓛 (raw (fact 𝓤 (t.used ≤ length piece.now)))
    (fact_i 𝓤 _ (emp 𝓤) (subst (λ n. n ≤ length piece.now) (sym same) in_range)) $ join ! $
    move ! (1 ∷ 3 ∷ []) $ join ! $ move ! (2 ∷ []) $
    nothing ! $ nothing ! $ join ! $ nothing ! $ join ! $ move ! (2 ∷ []) $ group ! 3 $ done !)))))))))))))))))
