-- Calls played one after the other: what holds so far, and what one call more adds.
use Rattle.kinds.specs.declared.kind.Kind as kinds
use Rattle.level_coder.specs.declared.coder.LevelCoder as level_coders
use Rattle.body_coder.specs.declared.coder.BodyCoder as body_coders
use Rattle.sinks.specs.declared.sink.PageSink as sinks
use Rattle.sinks.specs.declared.store.PageStore as stores
use Rattle.std.proofs.Common.{◌≡◌, ℕ, zero, suc, ◌+◌, ◌<◌, List, [], ◌∷◌, ◌++◌, map, length, get_or, take, set, Some, sym, refl, ap, ◌∙◌, subst, arith}
use Rattle.std.proofs.lemmas.List.{take_all, take_more, take_more_set, get_or-map, length-map}
use Rattle.std.proofs.lemmas.Grind.{flat_map-append}
use Rattle.sinks.specs.Stores.{StoreMeaning}
use Rattle.sinks.specs.Sinks.{SinkMeaning}
use Rattle.pages.specs.declared.layout.Layout.{Layout}
use Rattle.ledger.specs.Context.{layout, bytes}
use Rattle.ledger.specs.Ledger.{Ledger, Call, Answer, fed, fed_all}
use Rattle.chunk.specs.Histories.{History, with_ledger, and_call, and_calls}
use Rattle.chunk.specs.Stands.{Stands}
use Rattle.chunk.specs.Calls.{Step, Called}
use Rattle.chunk.specs.declared.state.State.{State}
use Rattle.runs.specs.declared.call.Call.{Call as Lent}
use Rattle.runs.specs.declared.call.Answer.{Answer as Given}
use Rattle.runs.specs.declared.call.Played.{Played}
use Rattle.runs.specs.Runs.{call_of, answer_of, lent_calls, calls_in, answer_in, answers_in, Threaded, PlayedAll}

fed_all_more : (f : Layout) (l : Ledger) (cs : List Call) (rs : List Answer) (c : Call) (r : Answer) → length cs ≡ length rs → fed_all f l (cs ++ (c ∷ [])) (rs ++ (r ∷ [])) ≡ fed f (fed_all f l cs rs) c r
fed_all_more f l [] [] c r e = refl
fed_all_more f l [] (s ∷ rs) c r e = absurd (omega (arith, e))
fed_all_more f l (d ∷ cs) [] c r e = absurd (omega (arith, e))
fed_all_more f l (d ∷ cs) (s ∷ rs) c r e = fed_all_more f (fed f l d s) cs rs c r (omega (arith, e))

module _ {S : Type 0} (m : StoreMeaning S) (w : SinkMeaning S) where
  -- each call has an answer
  threaded_lengths : (h : History) (cs : List Call) (k : S) (s : List ℕ) (rs : List Answer) (k' : S) (s' : List ℕ) → Threaded m w h cs k s rs k' s' → length cs ≡ length rs
  threaded_lengths h [] k s [] k' s' t = refl
  threaded_lengths h [] k s (r ∷ rs) k' s' t = absurd t
  threaded_lengths h (c ∷ cs) k s [] k' s' t = absurd t
  threaded_lengths h (c ∷ cs) k s (r ∷ rs) k' s' t = ap suc (threaded_lengths (and_call h c r) cs t.1.0 t.1.1 rs k' s' t.1.3)

  threaded_more : (h : History) (cs : List Call) (k : S) (s : List ℕ) (rs : List Answer) (k1 : S) (s1 : List ℕ) (c : Call) (r : Answer) (k2 : S) (s2 : List ℕ)
      → Threaded m w h cs k s rs k1 s1 → m.pages k1 ≡ h.before.pages ++ map (bytes h.context) (and_calls h cs rs).ledger.pages
      → Step h.context w (and_calls h cs rs).ledger c k1 s1 r k2 s2 → Threaded m w h (cs ++ (c ∷ [])) k s (rs ++ (r ∷ [])) k2 s2
  threaded_more h [] k s [] k1 s1 c r k2 s2 t p st =
      (ap m.pages (sym t.0) ∙ p, (k2, s2, subst (λ y. Step h.context w h.ledger c k y r k2 s2) t.1 (subst (λ y. Step h.context w h.ledger c y s1 r k2 s2) t.0 st), (refl, refl)))
  threaded_more h [] k s (q ∷ rs) k1 s1 c r k2 s2 t p st = absurd t
  threaded_more h (d ∷ cs) k s [] k1 s1 c r k2 s2 t p st = absurd t
  threaded_more h (d ∷ cs) k s (q ∷ rs) k1 s1 c r k2 s2 t p st =
      (t.0, (t.1.0, t.1.1, t.1.2, threaded_more (and_call h d q) cs t.1.0 t.1.1 rs k1 s1 c r k2 s2 t.1.3 p st))

-- the calls as the ledger has them follow from the calls
pub ledger_calls : {V : Type 0} (f : V → List ℕ) (ps : List (Played V)) → calls_in f ps ≡ map (call_of f) (lent_calls ps)
ledger_calls f [] = refl
ledger_calls f (p ∷ ps) = ap (λ cs. call_of f p.call ∷ cs) (ledger_calls f ps)

module _ {K L B S : Type 0} {gk : kinds.Ghosts K} {gl : level_coders.Ghosts L} {gb : body_coders.Ghosts B} {gs : sinks.Ghosts S} {gt : stores.Ghosts S} where
  played_none : (h : History) (c : State K L B S gk gl gb gs gt) (s : List ℕ) → Stands h c → PlayedAll h [] c s [] c s
  played_none h c s st = record { threaded = (refl, refl); stands = st }

  played_more : (h : History) (cs : List Call) (c : State K L B S gk gl gb gs gt) (s : List ℕ) (rs : List Answer) (c1 : State K L B S gk gl gb gs gt) (s1 : List ℕ) (call : Call) (r : Answer) (c2 : State K L B S gk gl gb gs gt) (s2 : List ℕ)
      → PlayedAll h cs c s rs c1 s1 → ((y : History) → Stands y c1 → Called y call c1 s1 r c2 s2) → PlayedAll h (cs ++ (call ∷ [])) c s (rs ++ (r ∷ [])) c2 s2
  played_more h cs c s rs c1 s1 call r c2 s2 a one =
      let e = threaded_lengths gt.meaning gs.meaning h cs c.sink s rs c1.sink s1 a.threaded in
      let b = one (and_calls h cs rs) a.stands in
      record {
        threaded = threaded_more gt.meaning gs.meaning h cs c.sink s rs c1.sink s1 call r c2.sink s2 a.threaded a.stands.sink.pages b.step;
        stands = subst (λ l. Stands (with_ledger h l) c2) (sym (fed_all_more (layout h.context) h.ledger cs rs call r e)) b.stands;
      }

  -- the first calls of a list were played, and their answers stand beside them
  pub record SoFar {V : Type 0} (f : V → List ℕ) (c0 : State K L B S gk gl gb gs gt) (s0 : List ℕ) (old new : List (Played V)) (at : ℕ) (c : State K L B S gk gl gb gs gt) (s : List ℕ) : Type 0 where
    pub played : (h : History) → Stands h c0 → PlayedAll h (take at (calls_in f old)) c0 s0 (answers_in (take at new)) c s
    pub calls : lent_calls new ≡ lent_calls old

  pub so_far_none : {V : Type 0} (f : V → List ℕ) (c0 : State K L B S gk gl gb gs gt) (s0 : List ℕ) (old : List (Played V)) → SoFar f c0 s0 old old 0 c0 s0
  so_far_none f c0 s0 old = record { played = λ h st. played_none h c0 s0 st; calls = refl }

  pub so_far_more : {V : Type 0} (f : V → List ℕ) (c0 : State K L B S gk gl gb gs gt) (s0 : List ℕ) (old new : List (Played V)) (at : ℕ) (c1 : State K L B S gk gl gb gs gt) (s1 : List ℕ) (call : Lent V) (r : Given) (c2 : State K L B S gk gl gb gs gt) (s2 : List ℕ)
      → at < length new → get_or (lent_calls new) at call ≡ call → SoFar f c0 s0 old new at c1 s1
      → ((y : History) → Stands y c1 → Called y (call_of f call) c1 s1 (answer_of r) c2 s2)
      → SoFar f c0 s0 old (set new at (record { call = call; answer = Some r })) (at + 1) c2 s2
  so_far_more {V} f c0 s0 old new at c1 s1 call r c2 s2 few is h one =
      let v : Played V = record { call = call; answer = Some r } in
      let same : calls_in f old ≡ calls_in f new = ledger_calls f old ∙ ap (map (call_of f)) (sym h.calls) ∙ sym (ledger_calls f new) in
      let here : get_or (calls_in f new) at (call_of f call) ≡ call_of f call =
      ap (λ cs. get_or cs at (call_of f call)) (ledger_calls f new) ∙ get_or-map (call_of f) (lent_calls new) at call (call_of f call) (omega (arith, few, length-map new (λ p. p.call))) ∙ ap (call_of f) is in
      let ec : take (at + 1) (calls_in f old) ≡ take at (calls_in f old) ++ (call_of f call ∷ []) =
      ap (take (at + 1)) same ∙ take_more (calls_in f new) at (call_of f call) (omega (arith, few, length-map new (λ p. call_of f p.call)))
      ∙ ap (λ y. take at (calls_in f new) ++ (y ∷ [])) here ∙ ap (λ cs. take at cs ++ (call_of f call ∷ [])) (sym same) in
      let er : answers_in (take (at + 1) (set new at v)) ≡ answers_in (take at new) ++ (answer_of r ∷ []) =
      ap answers_in (take_more_set new at v few) ∙ flat_map-append (λ p. answer_in p.answer) (take at new) (v ∷ []) in
      record {
        played = λ y st.
            let p = played_more y (take at (calls_in f old)) c0 s0 (answers_in (take at new)) c1 s1 (call_of f call) (answer_of r) c2 s2 (h.played y st) one in
            subst (λ q. PlayedAll y q c0 s0 (answers_in (take (at + 1) (set new at v))) c2 s2) (sym ec)
            (subst (λ q. PlayedAll y (take at (calls_in f old) ++ (call_of f call ∷ [])) c0 s0 q c2 s2) (sym er) p);
        calls = map_set_same new at v is ∙ h.calls;
      }
    where
      map_set_same : (ps : List (Played V)) (k : ℕ) (v : Played V) → get_or (lent_calls ps) k v.call ≡ v.call → lent_calls (set ps k v) ≡ lent_calls ps
      map_set_same [] k v e = refl
      map_set_same (p ∷ ps) zero v e = ap (λ c. c ∷ lent_calls ps) (sym e)
      map_set_same (p ∷ ps) (suc k) v e = ap (λ cs. p.call ∷ cs) (map_set_same ps k v e)

  -- all of them were
  pub so_far_all : {V : Type 0} (f : V → List ℕ) (c0 : State K L B S gk gl gb gs gt) (s0 : List ℕ) (old new : List (Played V)) (at : ℕ) (c : State K L B S gk gl gb gs gt) (s : List ℕ) → at ≡ length new → SoFar f c0 s0 old new at c s
      → (h : History) → Stands h c0 → PlayedAll h (calls_in f old) c0 s0 (answers_in new) c s
  so_far_all f c0 s0 old new at c s e a h st =
      let n : at ≡ length (calls_in f old) = e ∙ sym (length-map new (λ p. p.call)) ∙ ap length a.calls ∙ length-map old (λ p. p.call) ∙ sym (length-map old (λ p. call_of f p.call)) in
      subst (λ q. PlayedAll h q c0 s0 (answers_in new) c s) (take_all at (calls_in f old) (omega (arith, n)))
      (subst (λ q. PlayedAll h (take at (calls_in f old)) c0 s0 (answers_in q) c s) (take_all at new (omega (arith, e))) (a.played h st))
