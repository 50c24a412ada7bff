use Rattle.std.proofs.Common.{◌≡◌, ◌<◌, None, length, refl, sym, ap, ◌∙◌, arith}
use Rattle.std.specs.Prelude.{slice_get}
use Rattle.std.proofs.lemmas.Option.{slice_get-get_or}
use Rattle.fut_tokens.specs.declared.token.Position.{Position}
use Rattle.fut_rules.specs.Faults.{Searched, least}
use Rattle.fut_check.specs.Checks.{some_fit}
use Rattle.fut_check.specs.Items.{faults_of}
use Rattle.fut_check.proofs.Wholes.{items_fit, found_in, is_checked, fault_of}
use Rattle.fut_check.proofs.program.check.Goals as goal

pub walk_items-requires : goal.walk_items-requires
walk_items-requires c =
    let fit = items_fit c.args.program.now c.requires c.as_slice.result.now c.as_slice.ensures in
    let at : c.start-search.result.at ≡ 0 = ap (λ (s : Searched). s.at) c.start-search.ensures in
    let end = ap (λ (s : Searched). s.end) c.start-search.ensures in
    omega (arith, fit, at, end, ap length c.as_slice-places.ensures)

pub new-requires-clause-few : goal.new-requires-clause-few
new-requires-clause-few c =
    let fit = items_fit c.args.program.now c.requires c.args.program.now.items refl in
    let few = c.requires.few in
    omega (arith, fit, few)

pub new-requires-clause-checked : goal.new-requires-clause-checked
new-requires-clause-checked c =
    let found : c.walk_items.new.search.found ≡ least None (faults_of c.requires.tree) =
    found_in c.args.program.now c.requires c.as_slice.result.now c.start-search.result c.walk_items.new.search _ c.as_slice.ensures c.start-search.ensures
    c.in-Ok.ensures
    in is_checked c.args.program.now c.requires c.walk_items.new.search.found found (sym c.in-None.ensures.value)

pub returns-in-Some : goal.returns-in-Some
returns-in-Some c =
    let found : c.walk_items.new.search.found ≡ least None (faults_of c.requires.tree) =
    found_in c.args.program.now c.requires c.as_slice.result.now c.start-search.result c.walk_items.new.search _ c.as_slice.ensures c.start-search.ensures
    c.in-Ok.ensures
    in
    let token = c.in-Some.fault.token in
    let none : Position = record { line = 0; column = 0 } in
    let end = ap (λ (s : Searched). s.end) c.start-search.ensures in
    let within : c.in-Some.fault.token < length c.as_slice-places.result.now = omega (arith, c.in-Some.ensures.within, c.in-Ok.ensures.end, end) in
    fault_of c.args.program.now c.requires c.walk_items.new.search.found c.in-Some.fault c.number.result _ found (sym c.in-Some.ensures.value) c.number.ensures
    (ap (λ q. slice_get q token) (sym c.as_slice-places.ensures) ∙ slice_get-get_or c.as_slice-places.result.now token none within)

pub new-requires-clause-numbers : goal.new-requires-clause-numbers
new-requires-clause-numbers c = ap some_fit c.requires.is ∙ c.requires.numbers
