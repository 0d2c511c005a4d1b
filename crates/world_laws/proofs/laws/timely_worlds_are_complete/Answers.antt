use Rattle.world_laws.specs.World.{new_world}
use Rattle.world_laws.proofs.Below.{Below}
use Rattle.world_laws.proofs.CompleteLemmas.{after_course, complete, new_course}
use Rattle.world_laws.proofs.EventLemmas.{after_sound, new_sound}
use Rattle.world_laws.proofs.TimelyLemmas.{timely_test}
use Rattle.world_laws.proofs.UnnamedLemmas.{after_unnamed, ends_faultless, new_unnamed}
use Rattle.world_laws.proofs.laws.timely_worlds_are_complete.Goals as goal

pub returns : goal.returns
returns c =
    let below : Below = record {
      journals = c.every_journal_keeps_the_laws.ensures.laws;
      longer = c.calls_make_longer_journals.ensures.made;
      state_is = c.calls_make_longer_journals.ensures.state;
      cuts = c.texts_are_cut_by_the_grammar.ensures.body;
      stanzas = c.texts_are_cut_by_the_grammar.ensures.stanza;
      request_body = c.written_requests_read_back.ensures.body;
      request_read = c.written_requests_read_back.ensures.read;
      request_children = c.written_requests_read_back.ensures.children;
      answer_read = c.written_answers_read_back.ensures;
      ids = c.what_is_put_is_made_once.ensures.ids;
      forms = c.requests_have_the_form_that_reads_back.ensures;
      carries = c.requests_carry_what_they_took.ensures;
      tells = c.answers_tell_their_bodies.ensures;
      handed = c.payloads_are_handed_out_in_order.ensures.within;
      grows = c.payloads_are_handed_out_in_order.ensures.grows;
    } in
    record {
      complete = λ host greeting setup events begins allowed timely.
          let new = new_sound host greeting setup begins in
          let course = after_course below setup (new_world host greeting setup) new (new_course host greeting setup) events allowed timely in
          complete below setup _ (after_sound below setup (new_world host greeting setup) new events allowed) course;
      unnamed = λ host greeting setup events begins allowed timely none.
          let new = new_sound host greeting setup begins in
          let course = after_course below setup (new_world host greeting setup) new (new_course host greeting setup) events allowed timely in
          ends_faultless below setup _ (after_sound below setup (new_world host greeting setup) new events allowed) (after_unnamed (new_world host greeting setup) events none (new_unnamed setup)) course.ends;
      test = timely_test;
    }
