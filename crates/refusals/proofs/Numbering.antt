-- What an answer is refused for is said by one of its tests: the first that holds.
use Rattle.std.proofs.Common.{◌≡◌, suc, Bool, true, false, cond, List, [], ◌∷◌, Ok, Err, Result, sym, refl, ◌∙◌, subst, arith}
use Rattle.std.specs.Prelude.{Contains}
use Rattle.sinks.specs.Refusals.{Refusal}
use Rattle.refusals.specs.Refusals.{Test, tested, said_chunk, says, Numbered}
use Rattle.refusals.specs.declared.fault.ChunkFault.{ChunkFault}

here : (r : Refusal) (rs : List Refusal) → Contains (r ∷ rs) r
here r rs = (0, omega arith, refl)

there : (s r : Refusal) (rs : List Refusal) → Contains rs r → Contains (s ∷ rs) r
there s r rs c = (suc c.0, omega (arith, c.1), c.2)

first : {A : Type 0} (b : Bool) (f e : ChunkFault) (q : Result A ChunkFault) (rs : List Refusal) → (q ≡ Err e → Contains rs (said_chunk e)) → cond b (Err f) q ≡ Err e → Contains (said_chunk f ∷ rs) (said_chunk e)
first true f e q rs h eq = let z : f ≡ e = cc in subst (λ g. Contains (said_chunk f ∷ rs) (said_chunk g)) z (here (said_chunk f) rs)
first false f e q rs h eq = there (said_chunk f) (said_chunk e) rs (h eq)

-- a refusal where nothing behind the tests refuses says what one of them says
pub refused_says : {A : Type 0} (ts : List Test) (a : A) (e : ChunkFault) → tested ts (Ok a) ≡ Err e → Contains (says ts) (said_chunk e)
refused_says [] a e h = cc
refused_says (t ∷ ts) a e h = first t.holds t.fault e (tested ts (Ok a)) (says ts) (refused_says ts a e) h

-- so the order of the tests is all that is to be shown
pub numbered : {A : Type 0} (ts : List Test) (a : A) (answer : Result A ChunkFault) (rs : List Refusal) → says ts ≡ rs → answer ≡ tested ts (Ok a) → Numbered ts answer rs
numbered ts a answer rs order made = record {
  order = order;
  value = a;
  made = made;
  refused = λ e h. subst (λ qs. Contains qs (said_chunk e)) order (refused_says ts a e (sym made ∙ h));
}

-- an answer that is no refusal is the one behind the tests
behind : {A : Type 0} (b : Bool) (f : ChunkFault) (q : Result A ChunkFault) (y : A) → cond b (Err f) q ≡ Ok y → q ≡ Ok y
behind true f q y h = cc
behind false f q y h = h

pub ok_is : {A : Type 0} (ts : List Test) (a y : A) → tested ts (Ok a) ≡ Ok y → a ≡ y
ok_is [] a y h = cc
ok_is (t ∷ ts) a y h = ok_is ts a y (behind t.holds t.fault (tested ts (Ok a)) y h)
