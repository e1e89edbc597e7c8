use Rattle.std.proofs.Common.{◌+◌, ◌≤◌, take, drop, replicate, Some, sym, ap, ◌∙◌, subst, w16, SFits, rules}
use Rattle.std.specs.Option.{option_map}
use Rattle.std.proofs.lemmas.Int.{to_z-of_z}
use Rattle.level_data.specs.Levels.{levels_of, Reaches}
use Rattle.level_data.proofs.Repeats.{part_repeated, reaches_repeated}
use Rattle.level_data.proofs.levels_ref.LevelDataRef.slice.Goals as goal

pub returns-in_ok-end_of-in-Uniform : goal.returns-in_ok-end_of-in-Uniform
returns-in_ok-end_of-in-Uniform c =
    let l : c.args.offset + c.args.len ≤ c.in-Uniform.count = search rules in
    let f : SFits w16 c.in-Uniform.value = search rules in (
      subst (λ d. Reaches c.args.offset c.args.len (levels_of d)) (sym c.in-Uniform.is) (reaches_repeated _ _ _ _ l),
      ap (λ v. Some (replicate c.args.len v)) (to_z-of_z w16 c.in-Uniform.value f) ∙ ap Some (sym (part_repeated c.args.offset c.args.len c.in-Uniform.count c.in-Uniform.value l))
          ∙ ap (λ d. option_map (λ ls. take c.args.len (drop c.args.offset ls)) (levels_of d)) (sym c.in-Uniform.is),
    )
