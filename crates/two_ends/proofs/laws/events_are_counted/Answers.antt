use Rattle.world_laws.proofs.Below.{Below}
use Rattle.two_ends.proofs.SumLemmas.{step_grows}
use Rattle.two_ends.proofs.laws.events_are_counted.Goals as goal

pub returns : goal.returns
returns c =
    let below : Below = record {
      journals = c.every_journal_keeps_the_laws.ensures.laws;
      longer = c.calls_make_longer_journals.ensures.made;
      state_is = c.calls_make_longer_journals.ensures.state;
      cuts = c.texts_are_cut_by_the_grammar.ensures.body;
      stanzas = c.texts_are_cut_by_the_grammar.ensures.stanza;
      request_body = c.written_requests_read_back.ensures.body;
      request_read = c.written_requests_read_back.ensures.read;
      request_children = c.written_requests_read_back.ensures.children;
      answer_read = c.written_answers_read_back.ensures;
      ids = c.what_is_put_is_made_once.ensures.ids;
      forms = c.requests_have_the_form_that_reads_back.ensures;
      carries = c.requests_carry_what_they_took.ensures;
      tells = c.answers_tell_their_bodies.ensures;
      handed = c.payloads_are_handed_out_in_order.ensures.within;
      grows = c.payloads_are_handed_out_in_order.ensures.grows;
    } in
    λ w event served made passed within allowed. step_grows below w served made passed within event allowed
