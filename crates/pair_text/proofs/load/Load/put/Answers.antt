use Rattle.std.proofs.Common.{◌≡◌, ◌<◌, ◌∙◌, ◌+◌, ap, subst, sym}
use Rattle.std.specs.Prelude.{◌^◌, IsTrue}
use Rattle.body_cutter.specs.Cutting.{is_stanza}
use Rattle.two_ends.specs.Summed.{counted}
use Rattle.world_laws.specs.declared.event.WorldEvent.TheVariants.{Put}
use Rattle.pair_text.specs.Load.{happens, message_text}
use Rattle.pair_text.specs.Loads.{IsLoad}
use Rattle.pair_text.proofs.LoadLemmas.{counted_low}
use Rattle.pair_text.proofs.LoadSteps.{on_ok_map}
use Rattle.pair_text.proofs.MessageLemmas.{client_stanza}
use Rattle.pair_text.proofs.load.Load.put.Goals as goal

pub happens-requires : goal.happens-requires
happens-requires c =
    subst (λ stanza. IsTrue (is_stanza stanza)) (sym c.in_ok-stanza.ensures)
    ((c.texts_are_cut_by_the_grammar.ensures.stanza _).1
    (client_stanza c.saturating_add-self.result (subst (λ n. n < 2 ^ 64) (sym c.saturating_add-self.ensures) (counted_low (c.args.self.now.puts + 1)))))

pub returns : goal.returns
returns c = on_ok_map c.happens.result _ _
    (λ does plain is.
    let count : c.saturating_add-self.result ≡ counted (plain.puts + 1) = c.saturating_add-self.ensures ∙ ap (λ n. counted (n + 1)) is.puts in
    let after = record plain { puts = counted (plain.puts + 1) } in
    subst (λ stanza. IsLoad c.happens.new.self (happens (Put stanza) after)) (c.in_ok-stanza.ensures ∙ ap (message_text 99) count)
    (does after (record { world = is.world; copies = is.copies; puts = count; gives = is.gives })))
    c.happens.ensures
