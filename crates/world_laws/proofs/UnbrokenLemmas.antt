-- The client takes every answer in the network for one.
use Rattle.std.proofs.Common.{◌≡◌, ℕ, ◌==◌, ◌&&◌, Bool, true, false, not, List, length, map, inl, inr, refl, sym, ◌∙◌, ap, subst, arith}
use Rattle.std.specs.Prelude.{None, Some, Option, Ok, Result, All, is_none, is_some}
use Rattle.std.specs.Option.{option_map, option_or}
use Rattle.std.proofs.lemmas.Bool.{cases_eq}
use Rattle.std.proofs.lemmas.Bool.Decides.{nat_tests}
use Rattle.std.proofs.lemmas.List.Elements.{All-nil}
use Rattle.bosh_types.specs.ById.{at_id}
use Rattle.bosh_types.specs.declared.ending.Ending.{Ending}
use Rattle.bosh_types.specs.declared.kept.KeptAnswer.{KeptAnswer}
use Rattle.body_writer.specs.Answer.{answer_text}
use Rattle.session_core.specs.Endings.{error_parts, last_word, terminal}
use Rattle.session_core.specs.Kept.{kept_answer}
use Rattle.session_core.specs.Machine.{bytes_for, created_parts}
use Rattle.session_core.specs.Outward.{items_in}
use Rattle.session_core.specs.State.{PlainSession, answered_of, answers}
use Rattle.session_laws.proofs.Tests.{some_is, split, true_false}
use Rattle.bosh_client.specs.declared.replies.Answered.{Answered as Reply}
use Rattle.bosh_client.specs.declared.replies.Answered.TheVariants as answerings
use Rattle.bosh_client.specs.declared.replies.Why.{Why}
use Rattle.bosh_client.specs.declared.setup.ClientSetup.{ClientSetup}
use Rattle.bosh_client.specs.declared.told.Told.{Told}
use Rattle.bosh_client.specs.AnswerReading.{answer_of}
use Rattle.bosh_client.specs.Machine.{is_unknown, lacks_sid, misnames, take_answer}
use Rattle.bosh_client.specs.PlainClient.{PlainClient, request_at, taken}
use Rattle.bosh_client.specs.ReadBack.{told_of}
use Rattle.world_laws.specs.Manager.{PlainManager}
use Rattle.world_laws.specs.Promises.{IsUnbroken}
use Rattle.world_laws.specs.Sound.{IsAnswerTo, IsSound, IsWrittenTo}
use Rattle.world_laws.specs.World.{PlainWorld}
use Rattle.world_laws.proofs.Below.{Below}
use Rattle.world_laws.proofs.EventLemmas.{manager_of}
use Rattle.world_laws.proofs.HandedLemmas.{answer_read, made, s}
use Rattle.world_laws.proofs.InwardLemmas.{rid_is, sound}
use Rattle.world_laws.proofs.NameLemmas.{created_bytes, created_form, created_is, error_form, error_is, setup_same, terminal_form, terminal_is}
use Rattle.world_laws.proofs.PlaceLemmas.{found_place}
use Rattle.world_laws.proofs.ReadingLemmas.{TellsNaming, read_tells, word_tells}
use Rattle.world_laws.proofs.TurnLemmas.{all_follow}

-- the text tells something, and where it answers the creation it names the session or is terminal; it names no stream that isn't known
abbrev Tells : ℕ → ℕ → List ℕ → Type 0
Tells first rid body = (tells : Told) × (answer_of body ≡ Ok tells) × (rid ≡ first → (is_none tells.end && is_none tells.sid) ≡ false) × (is_unknown tells.stream ≡ false)

both_false : (a b : Bool) → (a ≡ true → b ≡ false) → (a && b) ≡ false
both_false true b is = is refl
both_false false b is = refl

same_id : (rid first : ℕ) → (rid == first) ≡ true → rid ≡ first
same_id rid first is = grind (arith, nat_tests, is)

-- so it isn't of a stream that the client doesn't know
names_well : (c : PlainClient) (rid : ℕ) (tells : Told) → is_unknown tells.stream ≡ false → misnames c rid tells ≡ false
names_well c rid tells known = both_false (not (rid == c.setup.first)) (is_unknown tells.stream && not (length tells.payloads == 0)) (λ _. ap (λ (b : Bool). b && not (length tells.payloads == 0)) known)

tells_unbroken : (c : PlainClient) (rid : ℕ) (body : List ℕ) → Tells c.setup.first rid body → IsUnbroken c (rid, body)
tells_unbroken c rid body (tells, reads, named, known) now why =
    let P : PlainClient × Reply → Type 0 = λ p. p.1 ≡ answerings.Broken why → ⊥ in
    let lacks : lacks_sid c rid tells ≡ false = both_false (rid == c.setup.first) (is_none tells.end && is_none tells.sid) (λ same. named (same_id rid c.setup.first same)) in
    split P (is_none (request_at c rid)) (c, answerings.Unmade) _ (λ none is. cc)
    (λ made. split P (is_some (taken c rid)) (c, answerings.Stale) _ (λ some is. cc)
    (λ open_now. subst (λ (r : Result Told Why). P (take_answer c rid body now r)) (sym reads)
    (split P (misnames c rid tells) _ _ (λ misnamed is. absurd (true_false (sym misnamed ∙ names_well c rid tells known)))
    (λ well. split P tells.error _ _ (λ error is. cc) (λ fine. split P (lacks_sid c rid tells) _ _ (λ lacking is. absurd (cc)) (λ has is. cc))))))

-- nor does an error break
error_unbroken : (c : PlainClient) (rid : ℕ) (body : List ℕ) (tells : Told) → answer_of body ≡ Ok tells → tells.error ≡ true → is_unknown tells.stream ≡ false → IsUnbroken c (rid, body)
error_unbroken c rid body tells reads error known now why =
    let P : PlainClient × Reply → Type 0 = λ p. p.1 ≡ answerings.Broken why → ⊥ in
    split P (is_none (request_at c rid)) (c, answerings.Unmade) _ (λ none is. cc)
    (λ made. split P (is_some (taken c rid)) (c, answerings.Stale) _ (λ some is. cc)
    (λ open_now. subst (λ (r : Result Told Why). P (take_answer c rid body now r)) (sym reads)
    (split P (misnames c rid tells) _ _ (λ misnamed is. absurd (true_false (sym misnamed ∙ names_well c rid tells known)))
    (λ well. split P tells.error _ _ (λ yes_ is. cc) (λ fine. absurd (cc))))))

terminal_named : (tells : Told) (end : _) → tells.end ≡ Some end → (is_none tells.end && is_none tells.sid) ≡ false
terminal_named tells end is = ap (λ e. is_none e && is_none tells.sid) is

module _ (below : Below) (setup : ClientSetup) (w : PlainWorld) (h : IsSound setup w) (m : PlainManager) (is : w.manager ≡ Some m) where
  abbrev t : PlainSession
  t = s below setup w h m is

  -- what stands at an id, or a last word
  given_tells : (rid : ℕ) (body : List ℕ) (found : Option KeptAnswer) → at_id (map kept_answer (answers t)) rid ≡ found → (ending : Option Ending)
      → option_or (option_map (λ (k : KeptAnswer). k.bytes) found) (option_map (λ e. last_word (answered_of t) e rid) ending) ≡ Some body → TellsNaming body
  given_tells rid body (Some kept) there ending given =
      let of = found_place kept_answer (answers t) rid kept there in
      let bytes : (of.1).bytes ≡ body = ap (λ (k : KeptAnswer). k.bytes) of.4 ∙ some_is kept.bytes body given in
      let tells = read_tells below (of.1).bytes (items_in (of.1).front) (answer_read below setup w h m is of.0 of.1 of.2) in
      (tells.0, ap answer_of (sym bytes) ∙ tells.1, tells.2)
  given_tells rid body None there None given = absurd (cc)
  given_tells rid body None there (Some ending) given =
      let tells = word_tells below (answered_of t) ending rid in
      (tells.0, ap answer_of (sym (some_is (last_word (answered_of t) ending rid) body given)) ∙ tells.1, tells.2)

  created_tells : (body : List ℕ) → bytes_for t setup.first ≡ Some body → Tells setup.first setup.first body
  created_tells body given =
      let o = m.journal.opening in
      let journal = made below setup w h m is in
      let text = created_bytes t o ((below.journals m.journal journal).created) in
      let first = rid_is below setup w h m is in
      let same : answer_text (created_parts o) ≡ body = some_is (answer_text (created_parts o)) body (sym text ∙ ap (bytes_for t) first ∙ given) in
      let by_client = (sound below setup w h m is).opened in
      let reads = below.answer_read (created_parts o) (created_is below setup h.begins.client h.begins.first o journal.0 by_client) (created_form below setup h.begins.client h.begins.first o journal.0 by_client) in
      (told_of (created_parts o), ap answer_of (sym same) ∙ reads, λ here. refl, refl)

  all_tell : (rid : ℕ) (body : List ℕ) → IsAnswerTo t (rid, body) → Tells setup.first rid body
  all_tell rid body answered = elim answered [
    | inl given ↦ elim (cases_eq rid setup.first) [
      | inl same ↦ subst (λ (n : ℕ). Tells setup.first n body) (sym same) (created_tells body (ap (bytes_for t) (sym same) ∙ given))
      | inr other ↦ (
          let tells = given_tells rid body (at_id (map kept_answer (answers t)) rid) refl t.ending given in
          (tells.0, tells.1, λ same. absurd (other same), tells.2))
    ]
    | inr word ↦ (
      told_of (terminal word.0),
      ap answer_of word.1 ∙ below.answer_read (terminal word.0) (terminal_is word.0) (terminal_form word.0),
      λ same. refl,
      refl,
    )
  ]

  all_unbroken : All (IsUnbroken w.client) w.written
  all_unbroken =
      let first : w.client.setup.first ≡ setup.first = ap (λ (x : ClientSetup). x.first) (setup_same below setup h.begins.client h.begins.first w.client h.client) in
      all_follow (IsWrittenTo t) (IsUnbroken w.client) w.written
      (λ answered written. elim written [
        | inl is_one ↦ tells_unbroken w.client answered.0 answered.1 (subst (λ (n : ℕ). Tells n answered.0 answered.1) (sym first) (all_tell answered.0 answered.1 is_one))
        | inr error ↦ error_unbroken w.client answered.0 answered.1 (told_of error_parts) (ap answer_of error ∙ below.answer_read error_parts error_is error_form) refl refl
      ])
      (sound below setup w h m is).written_are

pub every_unbroken : Below → (setup : ClientSetup) (w : PlainWorld) → IsSound setup w → All (IsUnbroken w.client) w.written
every_unbroken below setup w h = by w.manager refl
  where
    by : (o : Option PlainManager) → w.manager ≡ o → All (IsUnbroken w.client) w.written
    by None is = subst (λ (l : List (ℕ × List ℕ)). All (IsUnbroken w.client) l) (sym (manager_of below setup w h None is).0) (All-nil (IsUnbroken w.client))
    by (Some m) is = all_unbroken below setup w h m is
