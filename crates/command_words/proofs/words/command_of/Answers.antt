use Rattle.std.proofs.Common.{◌≡◌, true, rules, map, string_bytes}
use Rattle.command_words.proofs.Wording.{for_serial, for_run, for_load}
use Rattle.command_words.proofs.words.command_of.Goals as goal

pub returns-in-Some-behind-2 : goal.returns-in-Some-behind-2
returns-in-Some-behind-2 c =
    for_serial c.args.may_run (map string_bytes c.args.words.now)
    (map string_bytes c.in-Some-behind-2.rest.now) c.run_of.result c.in-Some-behind-2.ensures c.run_of.ensures

pub returns-in-Some-behind-3 : goal.returns-in-Some-behind-3
returns-in-Some-behind-3 c =
    let may : c.args.may_run ≡ true = search rules in
    for_load c.args.may_run (map string_bytes c.args.words.now)
    (map string_bytes c.in-Some-behind-3.rest.now) c.load_of.result may c.in-Some-behind-3.ensures c.load_of.ensures

pub returns : goal.returns
returns c =
    let may : c.args.may_run ≡ true = search rules in
    for_run c.args.may_run (map string_bytes c.args.words.now)
    (map string_bytes c.in_ok-rest.rest.now) c.run_of-2.result may c.in_ok-rest.ensures c.run_of-2.ensures
