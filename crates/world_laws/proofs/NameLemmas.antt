-- What a client is told by the creation's answer and by terminal answers; so it knows a session by a proper name.
use Rattle.std.proofs.Common.{◌≡◌, ℕ, ◌≤◌, ◌==◌, min, Bool, true, false, cond, List, [], ◌∷◌, length, map, inl, inr, refl, sym, ◌∙◌, ap, subst, arith, length-append}
use Rattle.std.specs.Prelude.{Option, None, Some, Result, Ok, IfSome, IsTrue, All, codes, is_some, if◌then◌else◌}
use Rattle.std.specs.List.{list_all}
use Rattle.std.specs.Option.{option_map, option_or, unwrap_or}
use Rattle.std.proofs.lemmas.Bool.{and_parts, eqb-true}
use Rattle.std.proofs.lemmas.Bool.Decides.{nat_tests}
use Rattle.std.proofs.lemmas.List.Elements.{All-cons, All-head, All-nil, All-tail}
use Rattle.std.proofs.lemmas.List.Sums.{sum_by-cons}
use Rattle.bosh_types.specs.ById.{at_id}
use Rattle.bosh_types.specs.Rid.{IsRid}
use Rattle.bosh_types.specs.declared.condition.Condition.{Condition}
use Rattle.bosh_types.specs.declared.kept.KeptAnswer.{KeptAnswer}
use Rattle.bosh_types.specs.declared.terms.Terms.{Terms}
use Rattle.body_cutter.specs.Built.{IsElementWithin}
use Rattle.body_cutter.specs.Chars.{is_allowed}
use Rattle.body_cutter.specs.Cutting.{is_stanza}
use Rattle.body_cutter.specs.Utf8.{IsUtf8Of}
use Rattle.body_writer.specs.declared.answer.AnswerParts.{AnswerParts}
use Rattle.body_writer.specs.Answer.{answer_text}
use Rattle.body_writer.specs.Attribute.{joined}
use Rattle.body_writer.specs.ReadBack.{AreTerms, IsAnswer, IsWord}
use Rattle.session_attrs.specs.declared.request.Creation.{Creation}
use Rattle.session_attrs.specs.declared.request.Kind.{Kind}
use Rattle.session_attrs.specs.declared.request.Kind.TheVariants as kinds
use Rattle.session_attrs.specs.declared.request.Request.{Request}
use Rattle.session_attrs.specs.Terms.{asked_hold, asked_wait, is_polling, lower_version, terms_of}
use Rattle.session_core.specs.declared.outward.Outward.TheVariants.{Stanza}
use Rattle.session_core.specs.Copy.{unnamed}
use Rattle.session_core.specs.Endings.{error_parts, last_word, terminal}
use Rattle.session_core.specs.Journal.{IsOpening}
use Rattle.session_core.specs.Kept.{kept_answer}
use Rattle.session_core.specs.Machine.{bytes_for, created_parts, first_answer}
use Rattle.session_core.specs.declared.opening.Opening.{Opening}
use Rattle.session_core.specs.Outward.{size_of, size_of_all}
use Rattle.session_core.specs.ReadBack.{asked_by}
use Rattle.session_core.specs.State.{Answered, PlainSession, answered_of}
use Rattle.session_laws.proofs.Tests.{some_is, split}
use Rattle.bosh_client.specs.declared.setup.ClientSetup.{ClientSetup}
use Rattle.bosh_client.specs.declared.told.Told.{Told}
use Rattle.bosh_client.specs.AnswerReading.{answer_of}
use Rattle.bosh_client.specs.PlainClient.{PlainClient, Taken, taken}
use Rattle.bosh_client.specs.Promises.{IsName, IsNamed}
use Rattle.bosh_client.specs.ReadBack.{IsInForm, told_of}
use Rattle.bosh_client.specs.Requests.{agreed_by, creation_parts}
use Rattle.bosh_client.specs.Setup.{is_setup}
use Rattle.bosh_client.proofs.RunLemmas.{client_is}
use Rattle.bosh_client.proofs.SetupLemmas.{setup_parts}
use Rattle.world_laws.specs.Manager.{PlainManager, session}
use Rattle.world_laws.specs.Sound.{IsAnswerTo, IsOpenedBy, IsRunClient, IsSoundManager, body_taken}
use Rattle.world_laws.specs.Steps.{name}
use Rattle.world_laws.proofs.AnswerSizes.{answer_fits}
use Rattle.world_laws.proofs.Below.{Below}

-- Terminal answers.

pub terminal_is : (condition : Option Condition) → IsAnswer (terminal condition)
terminal_is condition = record {
  created = tt;
  stream = tt;
  ack = tt;
  report = tt;
  payloads = (All-nil (IsElementWithin 32 64), omega arith);
  fits = answer_fits (terminal condition) (record { created = tt; stream = tt; ack = tt; report = tt; payloads = omega arith });
}

pub terminal_form : (condition : Option Condition) → IsInForm (terminal condition)
terminal_form condition = record { requests = tt; polling = tt; maxpause = tt; ack = tt }

-- The error.

pub error_is : IsAnswer error_parts
error_is = record {
  created = tt;
  stream = tt;
  ack = tt;
  report = tt;
  payloads = (All-nil (IsElementWithin 32 64), omega arith);
  fits = answer_fits error_parts (record { created = tt; stream = tt; ack = tt; report = tt; payloads = omega arith });
}

pub error_form : IsInForm error_parts
error_form = record { requests = tt; polling = tt; maxpause = tt; ack = tt }

-- The creation's answer.

-- what the creation of the client asks for
abbrev pub wish_of : ClientSetup → Kind
wish_of setup = (asked_by (creation_parts setup) []).kind

name_is : IsUtf8Of is_allowed name
unfolding is_allowed lib.Utf8.encode
name_is = record { characters = codes "s1"; pass = refl; spell = refl }

kept_within : (polling : Bool) (asked most : ℕ) → (if polling then 0 else min asked most) ≤ most
kept_within polling asked most = split (λ n. n ≤ most) polling 0 (min asked most) (λ _. omega arith) (λ _. omega arith)

record FewTerms (terms : Terms) : Type 0 where
  wait : terms.wait ≤ 120
  hold : terms.hold ≤ 4
  requests : terms.requests ≤ 5
  inactivity : terms.inactivity ≤ 75
  polling : terms.polling ≤ 5
  maxpause : terms.maxpause ≤ 120
  major : terms.version.0 ≤ 1
  minor : terms.version.1 ≤ 11

few_terms : (creation : Creation) → creation.version ≡ (1, 11) → FewTerms (terms_of creation)
unfolding terms_of
few_terms creation version = record {
  wait = kept_within (is_polling creation) (asked_wait creation) 120;
  hold = kept_within (is_polling creation) (asked_hold creation) 4;
  requests = omega (arith, kept_within (is_polling creation) (asked_hold creation) 4);
  inactivity = split (λ n. n ≤ 75) (is_polling creation) 75 30 (λ _. omega arith) (λ _. omega arith);
  polling = omega arith;
  maxpause = omega arith;
  major = subst (λ (v : ℕ × ℕ). (lower_version v (1, 11)).0 ≤ 1) (sym version) (omega arith);
  minor = subst (λ (v : ℕ × ℕ). (lower_version v (1, 11)).1 ≤ 11) (sym version) (omega arith);
}

are_terms : (terms : Terms) → FewTerms terms → AreTerms terms
are_terms terms few = (
  omega (arith, few.wait),
  omega (arith, few.requests),
  omega (arith, few.inactivity),
  omega (arith, few.polling),
  omega (arith, few.maxpause),
  omega (arith, few.hold),
  omega (arith, few.major),
  omega (arith, few.minor),
)

pub element : Below → (bytes : List ℕ) → IsTrue (is_stanza bytes) → IsElementWithin 32 64 bytes
element below bytes is =
    let stanza = (below.stanzas bytes).0 is in
    (stanza.1, stanza.2, stanza.3.attributes, stanza.3.depth)

pub elements : Below → (stanzas : List (List ℕ)) → list_all is_stanza stanzas ≡ true → All (IsElementWithin 32 64) stanzas
elements below [] all = All-nil (IsElementWithin 32 64)
elements below (bytes ∷ stanzas) all =
    let parts = and_parts (is_stanza bytes) (list_all is_stanza stanzas) all in
    All-cons (IsElementWithin 32 64) bytes stanzas (element below bytes parts.0) (elements below stanzas parts.1)

greeting_long : (greeting : List (List ℕ)) → length (joined greeting) ≡ size_of_all (map (Stanza unnamed) greeting)
greeting_long [] = refl
greeting_long (bytes ∷ greeting) =
    omega (arith, length-append bytes (joined greeting), greeting_long greeting, sum_by-cons size_of (Stanza unnamed bytes) (map (Stanza unnamed) greeting))

same_creation : (one other : Creation) → kinds.Creation one ≡ kinds.Creation other → one ≡ other
same_creation one other is = cc

module _ (below : Below) (setup : ClientSetup) (valid : is_setup setup ≡ true) (first : IsRid setup.first) where
  opened_terms : (o : Opening) → IsOpening o → IsOpenedBy setup o → FewTerms o.terms
  opened_terms o is by_client =
      let creation = is.creation in
      let kind = sym creation.1 ∙ ap (λ (r : Request). r.kind) by_client.request_is in
      let wished = same_creation creation.0 (record { wait = Some setup.wait; hold = Some setup.hold; version = (1, 11); asks_ack = is_some (creation_parts setup).ack }) kind in
      subst FewTerms (sym creation.2) (few_terms creation.0 (ap (λ (c : Creation). c.version) wished))

  pub opened_rid : (o : Opening) → IsOpenedBy setup o → o.request.rid ≡ setup.first
  opened_rid o by_client = ap (λ (r : Request). r.rid) by_client.request_is

  pub created_is : (o : Opening) → IsOpening o → IsOpenedBy setup o → IsAnswer (created_parts o)
  created_is o is by_client =
      let few = opened_terms o is by_client in
      let parts = setup_parts setup valid in
      let sid : IsUtf8Of is_allowed o.sid = subst (IsUtf8Of is_allowed) (sym by_client.sid_is) name_is in
      let from : IsUtf8Of is_allowed o.host = subst (IsUtf8Of is_allowed) (sym by_client.host_is) parts.to in
      let ack : IsWord o.request.rid = omega (arith, opened_rid o by_client, first.1) in
      record {
        created = (sid, are_terms o.terms few, from);
        stream = omega arith;
        ack = ack;
        report = tt;
        payloads = (elements below o.greeting (is.greeting).0, (is.greeting).1);
        fits = answer_fits (created_parts o) (record {
          created = (omega (arith, (is.sid).2), are_terms o.terms few, (is.host).2);
          stream = omega arith;
          ack = ack;
          report = tt;
          payloads = omega (arith, greeting_long o.greeting, (is.greeting).2);
        });
      }

  pub created_form : (o : Opening) → IsOpening o → IsOpenedBy setup o → IsInForm (created_parts o)
  created_form o is by_client =
      let few = opened_terms o is by_client in
      record {
        requests = omega (arith, few.requests);
        polling = omega (arith, few.polling);
        maxpause = omega (arith, few.maxpause);
        ack = subst IsRid (sym (opened_rid o by_client)) first;
      }

-- The creation is given its answer.

same_id : (rid : ℕ) → (rid == rid) ≡ true
same_id rid = grind (arith, nat_tests)

pub created_bytes : (s : PlainSession) (o : Opening) → s.created ≡ first_answer o → bytes_for s o.request.rid ≡ Some (answer_text (created_parts o))
created_bytes s o is =
    let rid = o.request.rid in
    let last : Option (List ℕ) = option_map (λ ending. last_word (answered_of s) ending rid) s.ending in
    let rest : Option KeptAnswer = at_id (map kept_answer s.answered) rid in
    let given : Answered → Option (List ℕ) = λ a. option_or (option_map (λ (k : KeptAnswer). k.bytes) (at_id (kept_answer a ∷ map kept_answer s.answered) rid)) last in
    let found : Bool → Option (List ℕ) = λ b. option_or (option_map (λ (k : KeptAnswer). k.bytes) (cond b (Some (kept_answer (first_answer o)).1) rest)) last in
    ap given is ∙ ap found (same_id rid)

-- What a client took.

pair_holds : (P : ℕ × Taken → Type 0) (n rid : ℕ) (u t : Taken) → n ≡ rid → u ≡ t → P (n, u) → P (rid, t)
pair_holds P n rid u t id one here = subst (λ (k : ℕ). P (k, t)) id (subst (λ (v : Taken). P (n, v)) one here)

-- what holds of all that was taken holds of what stands at an id
pub taken_holds : (P : ℕ × Taken → Type 0) (answers : List (ℕ × Taken)) (rid : ℕ) (t : Taken) → All P answers → at_id answers rid ≡ Some t → P (rid, t)
taken_holds P [] rid t all is = absurd (cc)
taken_holds P (answer ∷ answers) rid t all is =
    by (answer.0 == rid) refl is (All-head P answer answers all) (taken_holds P answers rid t (All-tail P answer answers all))
  where
    by : (b : Bool) → (answer.0 == rid) ≡ b → cond b (Some answer.1) (at_id answers rid) ≡ Some t → P answer → (at_id answers rid ≡ Some t → P (rid, t)) → P (rid, t)
    by true same is here later =
        let one : answer.1 ≡ t = cc in
        let id : answer.0 ≡ rid = eqb-true answer.0 rid same in
        pair_holds P answer.0 rid answer.1 t id one here
    by false same is here later = later is

ok_same : {X Y : Type 0} (r : Result X Y) (x y : X) → r ≡ Ok x → r ≡ Ok y → x ≡ y
ok_same r x y is also = cc

-- what tells the same is the same
pub tells_same : (body : List ℕ) (parts : AnswerParts) (tells : Told) → answer_of body ≡ Ok tells → body ≡ answer_text parts → answer_of (answer_text parts) ≡ Ok (told_of parts) → tells ≡ told_of parts
tells_same body parts tells reads is written = ok_same (answer_of (answer_text parts)) tells (told_of parts) (sym (ap answer_of is) ∙ reads) written

no_name : IsName []
no_name = (record { characters = []; pass = refl; spell = refl }, omega arith)

module _ (below : Below) (setup : ClientSetup) (valid : is_setup setup ≡ true) (first : IsRid setup.first) where
  -- the name that the creation's answer tells
  name_told : (m : PlainManager) (o : Opening) → IsOpening o → IsOpenedBy setup o → (session m).created ≡ first_answer o → (body : List ℕ) (tells : Told) → answer_of body ≡ Ok tells
      → IsAnswerTo (session m) (o.request.rid, body) → IsName (unwrap_or tells.sid [])
  name_told m o is by_client created body tells reads answer = elim answer [
    | inl given ↦
        let text = some_is body (answer_text (created_parts o)) (sym given ∙ created_bytes (session m) o created) in
        let told = tells_same body (created_parts o) tells reads text (below.answer_read (created_parts o) (created_is below setup valid first o is by_client) (created_form below setup valid first o is by_client)) in
        subst (λ (t : Told). IsName (unwrap_or t.sid [])) (sym told) (subst IsName (sym by_client.sid_is) (name_is, omega arith))
    | inr word ↦
        let told = tells_same body (terminal word.0) tells reads word.1 (below.answer_read (terminal word.0) (terminal_is word.0) (terminal_form word.0)) in
        subst (λ (t : Told). IsName (unwrap_or t.sid [])) (sym told) no_name
  ]

  pub setup_same : (c : PlainClient) → IsRunClient setup c → c.setup ≡ setup
  setup_same c run = ap (λ (d : PlainClient). d.setup) run.is ∙ (client_is setup run.calls first.0).begins

  pub all_told : (c : PlainClient) → IsRunClient setup c → All (λ (answer : ℕ × Taken). answer_of answer.1.body ≡ Ok answer.1.tells) c.answers
  all_told c run = subst (λ (d : PlainClient). All (λ (answer : ℕ × Taken). answer_of answer.1.body ≡ Ok answer.1.tells) d.answers) (sym run.is) (below.tells setup run.calls first.0)

  pub is_named : (sent written : List (ℕ × List ℕ)) (moment : ℕ) (m : PlainManager) (c : PlainClient) → IsRunClient setup c → IsSoundManager setup sent written c.answers moment m → IsNamed c
  is_named sent written moment m c run h = by (taken c c.setup.first) refl
    where
      o : Opening
      o = m.journal.opening

      by : (found : Option Taken) → taken c c.setup.first ≡ found → IfSome (option_map (λ answer. agreed_by c.setup answer.tells) found) (λ a. IsName a.sid)
      by None is = tt
      by (Some t) is =
          let rid : c.setup.first ≡ o.request.rid = ap (λ (s : ClientSetup). s.first) (setup_same c run) ∙ sym (opened_rid below setup valid first o h.opened) in
          let found : at_id c.answers o.request.rid ≡ Some t = ap (at_id c.answers) (sym rid) ∙ is in
          let answer = taken_holds (λ answer. IsAnswerTo (session m) (body_taken answer)) c.answers o.request.rid t h.taken_are found in
          let reads = taken_holds (λ (answer : ℕ × Taken). answer_of answer.1.body ≡ Ok answer.1.tells) c.answers o.request.rid t (all_told c run) found in
          name_told m o (h.made).0 h.opened ((below.journals m.journal h.made).created) t.body t.tells reads answer

-- before anything was answered there is no name
pub unnamed_yet : (c : PlainClient) → c.answers ≡ [] → IsNamed c
unnamed_yet c none = subst (λ (answers : List (ℕ × Taken)). IfSome (option_map (λ (answer : Taken). agreed_by c.setup answer.tells) (at_id answers c.setup.first)) (λ a. IsName a.sid)) (sym none) tt
