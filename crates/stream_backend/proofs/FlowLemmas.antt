-- What each call keeps of a stream.
use Rattle.std.proofs.Common.{◌≡◌, ◌≤◌, ◌∙◌, ◌⊎◌, inl, inr, ℕ, Bool, true, false, List, [], ◌∷◌, ◌++◌, map, refl, sym, ap, subst, append-nil, arith}
use Rattle.std.specs.Prelude.{All, Contains, IfSome, IsTrue, Option, None, Some}
use Rattle.std.specs.Io.KnownBytes.{Consumes, Keeps}
use Rattle.std.proofs.lemmas.List.{map-append}
use Rattle.std.proofs.lemmas.List.Elements.{All-contains, All-nil, All-push, Contains-push}
use Rattle.body_cutter.specs.BodyText.{IsStanza}
use Rattle.body_cutter.specs.Cutting.{is_stanza}
use Rattle.body_cutter.proofs.Cuts.{stanza_is}
use Rattle.bosh_ports.specs.Faults.{HasRisen}
use Rattle.bosh_ports.proofs.FaultLemmas.{HasRisen-before}
use Rattle.bosh_types.specs.declared.inward.Inward.{Inward}
use Rattle.xmpp_stream.specs.declared.incoming.Came.{Came}
use Rattle.xmpp_stream.specs.declared.incoming.Came.TheVariants as came
use Rattle.xmpp_stream.specs.declared.stage.Stage.{Stage}
use Rattle.xmpp_stream.specs.Cut.{GoesWrong, HasEnded, IsCut}
use Rattle.xmpp_stream.specs.declared.stream_cutter.StreamCutter.{StreamCutter}
use Rattle.xmpp_stream.specs.Qualified.{qualified}
use Rattle.xmpp_stream.specs.Stream.{Reads}
use Rattle.xmpp_stream.specs.Wire.{Comes, IsRead, IsWritten, TakesAtLeast, WasTaken}
use Rattle.xmpp_stream.proofs.WireLemmas.{written_kept}
use Rattle.stream_backend.specs.Flow.{Flow, Gives, GivesOne, GoesOn, HasClosed, HasGoneWrong, HasRunOut, Hears, IsFlow, IsSame, Stays, texts_of}

-- each element of a stream is a stanza as it stands alone
reads_stanzas : {text : List ℕ} {stage : Stage} {elements : List (List ℕ)} → Reads text stage elements → All (λ e. IsStanza (qualified e)) elements
reads_stanzas Reads.nothing = All-nil (λ (e : List ℕ). IsStanza (qualified e))
reads_stanzas (Reads.space b is more) = reads_stanzas more
reads_stanzas (Reads.tag bytes is within leads more) = reads_stanzas more
reads_stanzas (Reads.element {text} {elements} bytes stanza named alone more) = All-push (λ (e : List ℕ). IsStanza (qualified e)) elements bytes (reads_stanzas more) alone

cut_stanza : (cutter : StreamCutter) (fed : List ℕ) (elements : List (List ℕ)) (element : List ℕ) → IsCut cutter fed (elements ++ element ∷ []) → IsTrue (is_stanza (qualified element))
unfolding IsCut
cut_stanza cutter fed elements element cut =
    (stanza_is (qualified element)).1 (All-contains (λ (e : List ℕ). IsStanza (qualified e)) (elements ++ element ∷ []) element (reads_stanzas cut.reads) (Contains-push elements element))

-- a stream begins
pub flow_first : (flow : Flow) → flow.start_given ≡ flow.given → flow.start_left ≡ flow.left → ((start : Option (List ℕ)) → IsWritten start start flow.outgoing [])
    → ((start : Option (List ℕ)) → IsRead start start flow.incoming []) → flow.passed ≡ [] → flow.came ≡ [] → IsFlow flow
flow_first flow g l w r p c = record {
  elements = [];
  written = subst (λ (s : Option (List ℕ)). IsWritten s flow.given flow.outgoing flow.passed) (sym g) (subst (λ (xs : List Inward). IsWritten flow.given flow.given flow.outgoing xs) (sym p) (w flow.given));
  read = subst (λ (s : Option (List ℕ)). IsRead s flow.left flow.incoming []) (sym l) (r flow.left);
  came_is = c;
}

-- what a poll of the link leaves
pub record Takes (what : Came) (old new : Flow) : Type 0 where
  pub same : IsSame old new
  pub outgoing : new.outgoing ≡ old.outgoing
  pub came_is : new.came ≡ old.came ++ texts_of what
  pub given : Keeps old.given new.given
  pub faults : old.faults ≤ new.faults
  pub idle : old.idle ≤ new.idle
  pub comes : (elements : List (List ℕ)) → IsRead old.start_left old.left old.incoming elements → Comes what old.start_left new.left new.incoming elements
  pub failed : what ≡ came.Failed → HasRisen old.faults new.faults
  pub waits : what ≡ came.NotYet → HasRisen old.idle new.idle
  pub busy : what ≡ came.Busy → TakesAtLeast 128 old.left new.left

module _ (old new : Flow) (h : IsFlow old) where
  goes : (what : Came) → Takes what old new → GoesOn old new
  goes what t = record { same = t.same; closed = ap (λ o. o.closed) t.outgoing; faults = t.faults; idle = t.idle }

  stays : (what : Came) → Takes what old new → texts_of what ≡ [] → Stays old new
  stays what t none = record { on = goes what t; came = t.came_is ∙ ap (λ (xs : List (List ℕ)). old.came ++ xs) none ∙ append-nil old.came }

  came_same : (what : Came) → Takes what old new → texts_of what ≡ [] → new.came ≡ map qualified h.elements
  came_same what t none = (stays what t none).came ∙ h.came_is

  written_on : (what : Came) → Takes what old new → IsWritten new.start_given new.given new.outgoing new.passed
  written_on what t =
      subst (λ (s : Option (List ℕ)). IsWritten s new.given new.outgoing new.passed) (sym t.same.start_given)
      (subst (λ (xs : List Inward). IsWritten old.start_given new.given new.outgoing xs) (sym t.same.passed)
      (subst (λ o. IsWritten old.start_given new.given o old.passed) (sym t.outgoing) (written_kept h.written new.given t.given)))

  -- it is read on
  read_at : (elements : List (List ℕ)) → new.start_left ≡ old.start_left → IsRead old.start_left new.left new.incoming elements → IsRead new.start_left new.left new.incoming elements
  read_at elements s r = subst (λ (o : Option (List ℕ)). IsRead o new.left new.incoming elements) (sym s) r

  flow_same : (what : Came) → Takes what old new → texts_of what ≡ [] → IsRead old.start_left new.left new.incoming h.elements → IsFlow new
  flow_same what t none r = record { elements = h.elements; written = written_on what t; read = read_at h.elements t.same.start_left r; came_is = came_same what t none }

  pub flow_heard : (what : Came) → Takes what old new → IsFlow new × Hears what old new
  flow_heard (came.Item text) t =
      let k = t.comes h.elements h.read in (
        record {
          elements = h.elements ++ k.element ∷ [];
          written = written_on (came.Item text) t;
          read = read_at (h.elements ++ k.element ∷ []) t.same.start_left k.read;
          came_is = t.came_is ∙ ap (λ (xs : List (List ℕ)). xs ++ text ∷ []) h.came_is ∙ ap (λ (x : List ℕ). map qualified h.elements ++ x ∷ []) k.text_is ∙ sym (map-append qualified h.elements (k.element ∷ []));
        },
        record {
          on = goes (came.Item text) t;
          came = t.came_is;
          stanza = subst (λ (x : List ℕ). IsTrue (is_stanza x)) (sym k.text_is) (cut_stanza new.incoming.cutter k.read.fed h.elements k.element k.read.cut);
        },
      )
  flow_heard (came.Closed error) t =
      let k = t.comes h.elements h.read in (
        flow_same (came.Closed error) t refl k.0,
        (
          stays (came.Closed error) t refl,
          record {
            elements = h.elements;
            came_is = came_same (came.Closed error) t refl;
            taken = subst (λ (o : Option (List ℕ)). WasTaken o new.left (λ (taken : List ℕ). HasEnded taken h.elements)) (sym t.same.start_left) k.1;
            error_is = k.2;
          },
        ),
      )
  flow_heard (came.Broken place) t =
      let k = t.comes h.elements h.read in (
        flow_same (came.Broken place) t refl k.0,
        (
          stays (came.Broken place) t refl,
          record {
            place = place;
            elements = h.elements;
            came_is = came_same (came.Broken place) t refl;
            taken = subst (λ (o : Option (List ℕ)). WasTaken o new.left (λ (taken : List ℕ). GoesWrong place taken h.elements)) (sym t.same.start_left) k.1;
          },
        ),
      )
  flow_heard came.NotYet t = (flow_same came.NotYet t refl (t.comes h.elements h.read), (stays came.NotYet t refl, t.waits refl))
  flow_heard came.Busy t = (flow_same came.Busy t refl (t.comes h.elements h.read), (stays came.Busy t refl, t.busy refl))
  flow_heard came.End t =
      let k = t.comes h.elements h.read in (
        flow_same came.End t refl k.0,
        (
          stays came.End t refl,
          record {
            taken = subst (λ (o : Option (List ℕ)). WasTaken o new.left (λ (taken : List ℕ). IfSome o (λ (bytes : List ℕ). bytes ≡ taken))) (sym t.same.start_left) k.1;
          },
        ),
      )
  flow_heard came.Failed t = (flow_same came.Failed t refl (t.comes h.elements h.read), (stays came.Failed t refl, t.failed refl))

-- what goes on goes on further
same_on : (a b c : Flow) → IsSame a b → IsSame b c → IsSame a c
same_on a b c x y = record {
  start_given = y.start_given ∙ x.start_given;
  start_left = y.start_left ∙ x.start_left;
  to = y.to ∙ x.to;
  passed = y.passed ∙ x.passed;
}

pub goes_on : (a b c : Flow) → GoesOn a b → GoesOn b c → GoesOn a c
goes_on a b c x y = record { same = same_on a b c x.same y.same; closed = y.closed ∙ x.closed; faults = omega (arith, x.faults, y.faults); idle = omega (arith, x.idle, y.idle) }

pub goes_none : (a : Flow) → GoesOn a a
goes_none a = record { same = record { start_given = refl; start_left = refl; to = refl; passed = refl }; closed = refl; faults = omega arith; idle = omega arith }

pub stays_on : (a b c : Flow) → Stays a b → Stays b c → Stays a c
stays_on a b c x y = record { on = goes_on a b c x.on y.on; came = y.came ∙ x.came }

takes_after : (a b c : Option (List ℕ)) (n : ℕ) → Keeps a b → TakesAtLeast n b c → TakesAtLeast n a c
takes_after a b c n k t = record { bytes = t.bytes; many = t.many; consumes = consumed a b c t.bytes k t.consumes }
  where
    consumed : (a b c : Option (List ℕ)) (xs : List ℕ) → Keeps a b → Consumes b c xs → Consumes a c xs
    consumed None b c xs k h = tt
    consumed (Some a) None c xs k h = absurd k
    consumed (Some a) (Some b) None xs k h = absurd h
    consumed (Some a) (Some b) (Some c) xs k h = sym k ∙ h

-- what is owed is given, and then the stream is read
pub heard_after : (a b c : Flow) → Gives a b → (what : Came) → Hears what b c → Hears what a c
heard_after a b c g (came.Item text) h = record { on = goes_on a b c g.stays.on h.on; came = h.came ∙ ap (λ (xs : List (List ℕ)). xs ++ text ∷ []) g.stays.came; stanza = h.stanza }
heard_after a b c g (came.Closed error) h = (stays_on a b c g.stays h.0, h.1)
heard_after a b c g (came.Broken place) h = (stays_on a b c g.stays h.0, h.1)
heard_after a b c g came.NotYet h = (stays_on a b c g.stays h.0, HasRisen-before a.idle b.idle c.idle g.stays.on.idle h.0.on.idle h.1)
heard_after a b c g came.Busy h = (stays_on a b c g.stays h.0, takes_after a.left b.left c.left 128 g.left h.1)
heard_after a b c g came.End h = (stays_on a b c g.stays h.0, h.1)
heard_after a b c g came.Failed h = (stays_on a b c g.stays h.0, HasRisen-before a.faults b.faults c.faults g.stays.on.faults h.0.on.faults h.1)
