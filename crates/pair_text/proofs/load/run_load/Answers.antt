use Rattle.std.proofs.Common.{◌≡◌, ◌∙◌, ap, subst}
use Rattle.std.specs.Io.KnownBytes.{Appends}
use Rattle.bosh_ports.specs.Sink.{AppendsFront}
use Rattle.script_text.proofs.GivenLemmas.{AppendsFront-none, OnErr-any}
use Rattle.pair_text.specs.Load.{line_of, load_of, load_text}
use Rattle.pair_text.proofs.LoadLemmas.{ends_well, load_completes, load_ends, load_keeps}
use Rattle.pair_text.proofs.load.run_load.Goals as goal

pub returns-clause-given : goal.returns-clause-given
returns-clause-given g c = record {
  given = subst (Appends (g.K.Sink.given c.args.sink.now) (g.K.Sink.given c.give_all.new.sink))
      (c.as_slice.ensures.value ∙ c.in_ok-text.ensures ∙ ap line_of c.in_ok-line.ensures) c.in_ok-give_all.ensures.given;
  prefixes = load_keeps c.texts_are_cut_by_the_grammar.ensures.stanza
      (record { prefixes = c.every_world_keeps_both_prefixes.ensures.prefixes; shown = c.every_world_keeps_both_prefixes.ensures.shown }) c.args.number;
  complete = load_completes c.texts_are_cut_by_the_grammar.ensures.stanza c.timely_worlds_are_complete.ensures.complete c.args.number;
  over = ends_well (load_of c.args.number).world.manager (load_ends c.texts_are_cut_by_the_grammar.ensures.stanza c.timely_worlds_are_complete.ensures.unnamed c.args.number);
}

pub returns-in_err-line-clause-part : goal.returns-in_err-line-clause-part
returns-in_err-line-clause-part g c = OnErr-any c.from_residual.result _ (AppendsFront-none (g.K.Sink.given c.args.sink.now) (load_text c.args.number))

pub returns-in_err-text-clause-part : goal.returns-in_err-text-clause-part
returns-in_err-text-clause-part g c = OnErr-any c.from_residual-in_err-text.result _ (AppendsFront-none (g.K.Sink.given c.args.sink.now) (load_text c.args.number))

pub returns-in_err-give_all-clause-part : goal.returns-in_err-give_all-clause-part
returns-in_err-give_all-clause-part g c = OnErr-any c.from_residual-in_err-give_all.result _
    (subst (AppendsFront (g.K.Sink.given c.args.sink.now) (g.K.Sink.given c.give_all.new.sink))
    (c.as_slice.ensures.value ∙ c.in_ok-text.ensures ∙ ap line_of c.in_ok-line.ensures) c.in_err-give_all.ensures.given)
