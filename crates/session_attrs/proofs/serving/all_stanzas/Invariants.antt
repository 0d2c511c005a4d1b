use Rattle.std.proofs.Common.{◌≡◌, drop}
use Rattle.std.specs.List.{list_all}
use Rattle.body_cutter.specs.Cutting.{is_stanza}
use Rattle.session_attrs.proofs.serving.all_stanzas.Given as goal

-- all are stanzas exactly where those that are left are
abbrev pub invariant-loop-text : goal.invariant-loop-text
invariant-loop-text l = list_all is_stanza l.texts ≡ list_all is_stanza (drop l.text-index l.texts)
