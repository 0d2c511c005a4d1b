use Rattle.std.proofs.Common.{refl}
use Rattle.world_laws.specs.World.{new_world}
use Rattle.world_laws.proofs.Below.{Below}
use Rattle.world_laws.proofs.EventLemmas.{after_sound, new_sound}
use Rattle.world_laws.proofs.HandedLemmas.{handed_begins}
use Rattle.world_laws.proofs.InwardLemmas.{inward_begins}
use Rattle.world_laws.proofs.ShownLemmas.{all_shown}
use Rattle.world_laws.proofs.UnbrokenLemmas.{every_unbroken}
use Rattle.world_laws.proofs.laws.every_world_keeps_both_prefixes.Goals as goal

pub returns : goal.returns
returns c =
    let below : Below = record {
      journals = c.every_journal_keeps_the_laws.ensures.laws;
      longer = c.calls_make_longer_journals.ensures.made;
      state_is = c.calls_make_longer_journals.ensures.state;
      cuts = c.texts_are_cut_by_the_grammar.ensures.body;
      stanzas = c.texts_are_cut_by_the_grammar.ensures.stanza;
      request_body = c.written_requests_read_back.ensures.body;
      request_read = c.written_requests_read_back.ensures.read;
      request_children = c.written_requests_read_back.ensures.children;
      answer_read = c.written_answers_read_back.ensures;
      ids = c.what_is_put_is_made_once.ensures.ids;
      forms = c.requests_have_the_form_that_reads_back.ensures;
      carries = c.requests_carry_what_they_took.ensures;
      tells = c.answers_tell_their_bodies.ensures;
      handed = c.payloads_are_handed_out_in_order.ensures.within;
      grows = c.payloads_are_handed_out_in_order.ensures.grows;
    } in
    record {
      sound = λ host greeting setup events begins allowed.
          after_sound below setup (new_world host greeting setup) (new_sound host greeting setup begins) events allowed;
      prefixes = λ host greeting setup events begins allowed.
          let sound = after_sound below setup (new_world host greeting setup) (new_sound host greeting setup begins) events allowed in
          record { inward_is = inward_begins below setup _ sound; handed_is = handed_begins below setup _ sound };
      shown = λ host greeting setup events begins allowed.
          all_shown below setup (new_world host greeting setup) (new_sound host greeting setup begins) refl refl events allowed;
      unbroken = λ host greeting setup events begins allowed.
          every_unbroken below setup _ (after_sound below setup (new_world host greeting setup) (new_sound host greeting setup begins) events allowed);
    }
