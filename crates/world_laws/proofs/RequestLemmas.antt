-- What a client's request is read as.
use Rattle.std.proofs.Common.{◌≡◌, ℕ, suc, ◌==◌, ◌&&◌, Bool, true, false, cond, List, [], ◌∷◌, ◌++◌, map, slice_get, inl, inr, refl, sym, ◌∙◌, ap, ap₂, subst, arith, append-nil, if◌then◌else◌}
use Rattle.std.specs.Prelude.{Option, None, Some, Result, Ok, Err, IfSome, is_some}
use Rattle.std.specs.Option.{option_and_then}
use Rattle.std.proofs.lemmas.Bool.{eqb-true}
use Rattle.bosh_types.specs.ById.{at_id}
use Rattle.body_cutter.specs.declared.parts.Cut.{Cut}
use Rattle.body_cutter.specs.declared.parts.Span.{Span}
use Rattle.body_cutter.specs.Cutting.{body_cut_of}
use Rattle.body_cutter.specs.Pieces.{bytes_at}
use Rattle.body_writer.specs.declared.request.RequestParts.{RequestParts}
use Rattle.body_writer.specs.Request.{request_text}
use Rattle.session_attrs.specs.declared.request.Creation.{Creation}
use Rattle.session_attrs.specs.declared.request.Kind.TheVariants as kinds
use Rattle.session_attrs.specs.declared.request.Request.{Request}
use Rattle.session_attrs.specs.Reading.{request_of}
use Rattle.session_attrs.specs.Values.{values_of}
use Rattle.session_core.specs.Journal.{IsReadFrom}
use Rattle.session_core.specs.ReadBack.{IsCreation, IsInForm, asked_by, asked_for}
use Rattle.session_journal.specs.Entries.{request_in, unrefused}
use Rattle.bosh_client.specs.declared.setup.ClientSetup.{ClientSetup}
use Rattle.bosh_client.specs.PlainClient.{Made, bytes_of, id_of}
use Rattle.bosh_client.specs.Promises.{HasForm, IsKnown}
use Rattle.bosh_client.specs.Requests.{creation_parts}
use Rattle.bosh_client.specs.Setup.{is_setup}
use Rattle.bosh_client.proofs.SetupLemmas.{setup_parts}
use Rattle.world_laws.specs.Sound.{sent_of}
use Rattle.world_laws.proofs.Below.{Below}

-- The form of a request.

some_creation : (one other : List ℕ × ℕ × ℕ) → Some one ≡ Some other → one ≡ other
some_creation one other is = cc

wish : (ack : Bool) → IfSome {T = ℕ} (if ack then Some 1 else None) (λ n. n ≡ 1)
wish true = refl
wish false = tt

creation_form : (setup : ClientSetup) → is_setup setup ≡ true → IsCreation (creation_parts setup) setup.wait setup.hold
creation_form setup is =
    let parts = setup_parts setup is in
    record {
      sid = refl;
      key = refl;
      pause = refl;
      terminate = refl;
      restart = refl;
      wait_within = omega (arith, parts.wait);
      hold_within = omega (arith, parts.hold);
      ack = wish setup.ack;
    }

pub in_form : (setup : ClientSetup) (parts : RequestParts) → is_setup setup ≡ true → HasForm setup parts → IsInForm parts parts.creation
in_form setup parts is form = by parts.creation refl form.known
  where
    by : (creation : Option (List ℕ × ℕ × ℕ)) → parts.creation ≡ creation → IsKnown setup parts creation → IsInForm parts creation
    by None same known = record { sid = known.sid; ack = known.ack; pause = known.pause }
    by (Some (to, wait, hold)) same known =
        let asked : (setup.to, setup.wait, setup.hold) ≡ (to, wait, hold) = some_creation (setup.to, setup.wait, setup.hold) (to, wait, hold) (sym (ap (λ (p : RequestParts). p.creation) known) ∙ same) in
        subst (λ (p : RequestParts). IsCreation p wait hold) (sym known)
        (subst (λ (c : List ℕ × ℕ × ℕ). IsCreation (creation_parts setup) c.1 c.2) asked (creation_form setup is))

-- a creation is the client's one
pub creation_is : (setup : ClientSetup) (parts : RequestParts) (children : List Span) (creation : Creation) → HasForm setup parts
    → (asked_by parts children).kind ≡ kinds.Creation creation → parts ≡ creation_parts setup
creation_is setup parts children creation form kind = by parts.creation form.known kind
  where
    by : (asked : Option (List ℕ × ℕ × ℕ)) → IsKnown setup parts asked → (asked_for parts children asked).kind ≡ kinds.Creation creation → parts ≡ creation_parts setup
    by None known kind = absurd (cc)
    by (Some (to, wait, hold)) known kind = known

pub asked_rid : (parts : RequestParts) (children : List Span) → (asked_by parts children).rid ≡ parts.rid
asked_rid parts children = by parts.creation
  where
    by : (asked : Option (List ℕ × ℕ × ℕ)) → (asked_for parts children asked).rid ≡ parts.rid
    by None = refl
    by (Some (to, wait, hold)) = refl

pub asked_stanzas : (parts : RequestParts) (children : List Span) → (asked_by parts children).stanzas ≡ children
asked_stanzas parts children = by parts.creation
  where
    by : (asked : Option (List ℕ × ℕ × ℕ)) → (asked_for parts children asked).stanzas ≡ children
    by None = refl
    by (Some (to, wait, hold)) = refl

-- How its body reads.

-- its body is a request with these children, which are its payloads
pub record ReadsBack (parts : RequestParts) : Type 0 where
  pub children : List Span
  pub read : IsReadFrom (request_text parts) (asked_by parts children)
  pub are : map (bytes_at (request_text parts)) children ≡ parts.payloads

pub reads_back : Below → (setup : ClientSetup) (parts : RequestParts) → is_setup setup ≡ true → HasForm setup parts → ReadsBack parts
reads_back below setup parts is form =
    let body = below.request_body parts form.form in
    record {
      children = body.0.children;
      read = (body.0, (below.cuts (request_text parts) body.0).1 body.1, below.request_read parts form.form (in_form setup parts is form) body.0 body.1);
      are = below.request_children parts form.form body.0 body.1;
    }

-- what a body gives is read from it
pub given_read : (body : List ℕ) (request : Request) → request_in body ≡ Some request → IsReadFrom body request
given_read body request is = by (body_cut_of body) refl is
  where
    with_cut : (cut : Cut) → body_cut_of body ≡ Ok cut → (r : Result Request _) → request_of (values_of body cut.attrs) cut.children ≡ r → unrefused r ≡ Some request → IsReadFrom body request
    with_cut cut cuts (Ok other) reads same =
        let one : other ≡ request = cc in
        (cut, cuts, reads ∙ ap Ok one)
    with_cut cut cuts (Err refusal) reads same = absurd (cc)

    by : (r : Result Cut _) → body_cut_of body ≡ r → option_and_then (λ (cut : Cut). unrefused (request_of (values_of body cut.attrs) cut.children)) (unrefused r) ≡ Some request → IsReadFrom body request
    by (Ok cut) cuts same = with_cut cut cuts (request_of (values_of body cut.attrs) cut.children) refl same
    by (Err refusal) cuts same = absurd (cc)

-- Which request a body in the network is of.

pub record IsOf (requests : List Made) (rid : ℕ) (body : List ℕ) : Type 0 where
  pub place : ℕ
  pub request : Made
  pub here : slice_get requests place ≡ Some request
  pub id_is : id_of request ≡ rid
  pub body_is : bytes_of request ≡ body

pub sent_is_of : (requests : List Made) (rid : ℕ) (body : List ℕ) → at_id (map sent_of requests) rid ≡ Some body → IsOf requests rid body
sent_is_of [] rid body is = absurd (cc)
sent_is_of (first ∷ requests) rid body is = by (id_of first == rid) refl is (sent_is_of requests rid body)
  where
    by : (b : Bool) → (id_of first == rid) ≡ b → cond b (Some (bytes_of first)) (at_id (map sent_of requests) rid) ≡ Some body
        → (at_id (map sent_of requests) rid ≡ Some body → IsOf requests rid body) → IsOf (first ∷ requests) rid body
    by true same is later = record { place = 0; request = first; here = refl; id_is = eqb-true (id_of first) rid same; body_is = cc }
    by false same is later =
        let of = later is in
        record { place = suc of.place; request = of.request; here = of.here; id_is = of.id_is; body_is = of.body_is }
