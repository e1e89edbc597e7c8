use Rattle.std.proofs.Common.{◌≡◌, Some, None, sym, refl, ◌∙◌, arith}
use Rattle.std.specs.Option.{option_or}
use Rattle.runs.specs.Runs.{answers_in}
use Rattle.rebuild.specs.Readings.{first_refusal}
use Rattle.rebuild.proofs.Comparing.{refused, both}
use Rattle.rebuild.proofs.Laying.{places_of_one, places_of_other}
use Rattle.rebuild.proofs.rebuilding.rebuild.Goals as goal

pub returns-in-Some : goal.returns-in-Some
returns-in-Some g c =
    let places = sym c.have_places.ensures ∙ c.if-not-have_places.false in
    let e : Some c.in-Some.fault ≡ option_or (first_refusal (answers_in c.replay_both-written.new.calls)) (first_refusal (answers_in c.replay_both-written.new.other_calls)) = cc in
    refused _ _ _ _ _ _ _ _ _ _ _ _ _ _ c.in-Some.fault (record {
      one = c.lay_calls.ensures (places_of_one _ _ _ _ places);
      other = c.lay_calls-2.ensures (places_of_other _ _ _ _ places);
      one_same = c.replay_both-written.ensures.calls;
      other_same = c.replay_both-written.ensures.other_calls;
      ran = c.replay_both-written.ensures.both;
      room = omega (arith);
    }) e

pub returns : goal.returns
returns g c =
    let places = sym c.have_places.ensures ∙ c.if-not-have_places.false in
    let e : None ≡ option_or (first_refusal (answers_in c.replay_both-written.new.calls)) (first_refusal (answers_in c.replay_both-written.new.other_calls)) = cc in
    both _ _ _ _ _ _ _ _ _ _ _ _ _ _ _ (record {
      one = c.lay_calls.ensures (places_of_one _ _ _ _ places);
      other = c.lay_calls-2.ensures (places_of_other _ _ _ _ places);
      one_same = c.replay_both-written.ensures.calls;
      other_same = c.replay_both-written.ensures.other_calls;
      ran = c.replay_both-written.ensures.both;
      room = omega (arith);
    }) refl refl refl refl e c.records_agree-agrees.ensures
