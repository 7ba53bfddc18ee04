use Rattle.std.proofs.Common.{rules, ◌≡◌, ◌∙◌, ap, map, true, false}
use Rattle.std.specs.Prelude.{string_bytes}
use Rattle.std.specs.List.{list_any}
use Rattle.std.specs.Str.{bytes_eq}
use Rattle.request_list.proofs.DistinctNames.{add_known, add_new}
use Rattle.request_list.proofs.relations.add_name.Goals as goal

pub returns-then-is_named : goal.returns-then-is_named
returns-then-is_named c =
    let known : list_any (λ other. bytes_eq (string_bytes other) c.args.name.now)
    c.args.names.now.items ≡ true = search rules in
    add_known string_bytes c.args.names.now.items c.args.name.now known

pub returns : goal.returns
returns c =
    let new : list_any (λ other. bytes_eq (string_bytes other) c.args.name.now)
    c.args.names.now.items ≡ false = search rules in
    λ names same.
    ap (map string_bytes) c.in_ok-push.ensures.items
    ∙ add_new string_bytes c.args.names.now.items c.in_ok-from_str.field-0
    c.args.name.now new (search rules) names same
