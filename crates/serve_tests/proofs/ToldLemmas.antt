-- What links were given that tell it, by what became of them.
use Rattle.std.proofs.Common.{◌≡◌, ◌++◌, ℕ, Bool, true, List, [], All, Option, Some, None, refl, sym, ◌∙◌, ap, subst, inl, inr, append_assoc, append-nil}
use Rattle.std.proofs.lemmas.List.Elements.{All-weaker}
use Rattle.std.specs.Io.KnownBytes.{Appends}
use Rattle.server_ports.specs.Counts.{Counts}
use Rattle.serve_loop.specs.declared.connection.ConnectionEnd.TheVariants as ends
use Rattle.serve_loop.specs.declared.connection.Stage.{Stage}
use Rattle.serve_loop.specs.declared.connection.Stage.TheVariants as stages
use Rattle.serve_loop.specs.declared.owed.Owed.TheVariants as owed
use Rattle.serve_loop.specs.Connections.{EndsItself, Outside, message, messages, outside}
use Rattle.serve_loop.specs.Stepping.{StandsAt}
use Rattle.serve_loop.specs.Trail.{Setting}
use Rattle.session_pump.specs.declared.hosts.Host.{Host}
use Rattle.session_table.specs.declared.opening.Limits.{Limits}
use Rattle.bosh_server.specs.Fates.{IsFate, site_of}
use Rattle.bosh_server.specs.Runs.{RunsBy}
use Rattle.bosh_server.specs.declared.fates.Fate.{Fate}
use Rattle.bosh_server.specs.declared.fates.Fate.TheVariants as fates
use Rattle.bosh_server.specs.declared.fates.Past.{Past}
use Rattle.bosh_server.specs.declared.plan.Ran.{Ran}
use Rattle.serve_tests.specs.Told.{AreAnswered, IsAnswered, IsAnsweredAt, IsToldOf}

-- what grew twice
twice : (a : List ℕ) (between : Option (List ℕ)) (c first then : List ℕ) → Appends (Some a) between first → Appends between (Some c) then → c ≡ a ++ (first ++ then)
twice a None c first then one two = absurd one
twice a (Some b) c first then one two = two ∙ ap (λ l. l ++ then) one ∙ append_assoc a first then

-- the same of what is told by other names
grown : (a b : Option (List ℕ)) (x y more : List ℕ) → a ≡ Some x → b ≡ Some y → Appends a b more → y ≡ x ++ more
grown a b x y more first last gave = subst (λ (o : Option (List ℕ)). Appends (Some x) o more) last (subst (λ (o : Option (List ℕ)). Appends o b more) first gave)

grown_twice : (a between b : Option (List ℕ)) (x y one then : List ℕ) → a ≡ Some x → b ≡ Some y → Appends a between one → Appends between b then → y ≡ x ++ (one ++ then)
grown_twice a between b x y one then first last gave more =
    twice x between y one then (subst (λ (o : Option (List ℕ)). Appends o between one) first gave) (subst (λ (o : Option (List ℕ)). Appends between o then) last more)

module _ {L : Type 0} (left : L → Option (List ℕ)) (given : L → List ℕ) (closed : L → Option Bool) (faults : L → ℕ) (site : Setting) where
  -- a connection that ended of itself
  ended : (p : Past L) (start now : Outside) → start.given ≡ Some (given p.came.value) → now.given ≡ Some (given p.went.value) → given p.end.value ≡ given p.went.value
      → EndsItself site start now ends.Ended → IsAnswered given site p
  ended p start now first last same (inl e) = record {
    exchanges = e.exchanges;
    true_of = e.answered.true_of;
    last = [];
    last_so = inl refl;
    given_so = same ∙ grown start.given now.given (given p.came.value) (given p.went.value) (messages e.exchanges) first last e.answered.gave
        ∙ ap (λ l. given p.came.value ++ l) (sym (append-nil (messages e.exchanges)));
  }
  ended p start now first last same (inr (inl (text, g))) = record {
    exchanges = g.owes.exchanges;
    true_of = g.owes.answered.true_of;
    last = message (owed.Answer text true);
    last_so = inr (owed.Answer text true, refl, refl);
    given_so = same ∙ grown_twice start.given g.given now.given (given p.came.value) (given p.went.value) (messages g.owes.exchanges) (message (owed.Answer text true))
        first last g.owes.answered.gave g.gave;
  }
  ended p start now first last same (inr (inr (refusal, g))) = record {
    exchanges = g.owes.exchanges;
    true_of = g.owes.answered.true_of;
    last = message (owed.Refusal refusal);
    last_so = inr (owed.Refusal refusal, refl, refl);
    given_so = same ∙ grown_twice start.given g.given now.given (given p.came.value) (given p.went.value) (messages g.owes.exchanges) (message (owed.Refusal refusal))
        first last g.owes.answered.gave g.gave;
  }

  -- wherever it was let go
  at_stage : (p : Past L) (start now : Outside) (place : ℕ) (stage : Stage) → start.given ≡ Some (given p.came.value) → now.given ≡ Some (given p.went.value)
      → given p.end.value ≡ given p.went.value → StandsAt site start now place stage → IsAnsweredAt given site p stage
  at_stage p start now place (stages.Over ends.Ended) first last same stood = ended p start now first last same stood
  at_stage p start now place (stages.Over ends.ReadFault) first last same stood = tt
  at_stage p start now place (stages.Over ends.WriteFault) first last same stood = tt
  at_stage p start now place (stages.Over ends.Superseded) first last same stood = tt
  at_stage p start now place (stages.Over ends.Silent) first last same stood = tt
  at_stage p start now place (stages.Over ends.Memory) first last same stood = tt
  at_stage p start now place (stages.Over ends.Gone) first last same stood = tt
  at_stage p start now place stages.Reading first last same stood = tt
  at_stage p start now place (stages.Asked body closing) first last same stood = tt
  at_stage p start now place (stages.Waiting w closing looked) first last same stood = tt
  at_stage p start now place (stages.Owing what) first last same stood = tt

  pub told_of : (fate : Fate L) → IsFate left (λ l. Some (given l)) closed faults site fate → IsToldOf given site fate
  told_of (fates.Served p) served = at_stage p (outside [] (left p.came.value) (Some (given p.came.value)) [] p.first.value (faults p.came.value))
      (outside p.connection.value.reader (left p.went.value) (Some (given p.went.value)) p.trail p.last.value (faults p.went.value))
      p.connection.value.standing.place p.connection.value.standing.stage refl refl served.shut.given_so served.stood
  told_of (fates.TurnedAway a) away = tt
  told_of (fates.NoMemory a) away = tt

  -- and each of all
  pub told_of_each : (roll : List (List (Fate L))) → All (λ fates. All (IsFate left (λ l. Some (given l)) closed faults site) fates) roll
      → All (λ fates. All (IsToldOf given site) fates) roll
  told_of_each roll each = All-weaker (λ fates. All (IsFate left (λ l. Some (given l)) closed faults site) fates) (λ fates. All (IsToldOf given site) fates)
      (λ fates all. All-weaker (IsFate left (λ l. Some (given l)) closed faults site) (IsToldOf given site) told_of fates all) roll each
