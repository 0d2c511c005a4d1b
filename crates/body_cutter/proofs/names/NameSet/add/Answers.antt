use Rattle.std.proofs.Common.{Bool, true, false, not, ◌∙◌, sym, ap}
use Rattle.std.specs.Prelude.{map}
use Rattle.std.specs.Bool.{OnTrue}
use Rattle.std.specs.Ordering.{nat_cmp, is_eq}
use Rattle.std.specs.Cmp.Lexicographic.{slice_cmp}
use Rattle.body_cutter.specs.Names.{has_name, with_name}
use Rattle.body_cutter.proofs.NameLemmas.{list_any-map, map-insert_key}
use Rattle.body_cutter.proofs.names.NameSet.add.Goals as goal

always : (b : Bool) (P : Type 0) → P → OnTrue b P
always true P p = p
always false P p = tt

pub returns-clause-added : goal.returns-clause-added
unfolding has_name
returns-clause-added c =
    c.in_ok-insert.ensures.added
    ∙ ap not (sym (list_any-map (λ v. v.items) (λ other. is_eq (slice_cmp nat_cmp c.args.name.items other)) c.self.inside.names.keys)
    ∙ ap (λ names. has_name names c.args.name.items) c.self.view_is)

pub returns-clause-new_name : goal.returns-clause-new_name
unfolding with_name
returns-clause-new_name c = always c.in_ok-insert.field-0 _
    (ap (map (λ name. name.items)) c.in_ok-insert.ensures.keys
    ∙ map-insert_key (λ name. name.items) (slice_cmp nat_cmp) c.self.inside.names.keys c.args.name
    ∙ ap (λ names. with_name names c.args.name.items) c.self.view_is)
