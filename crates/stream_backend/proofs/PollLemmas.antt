-- What a poll tells, and how a wire begins.
use Rattle.std.proofs.Common.{◌≡◌, ◌≢◌, ◌<◌, ◌≤◌, ◌⊎◌, ◌∙◌, ◌+◌, inl, inr, ℕ, Bool, true, false, List, [], ◌∷◌, ◌++◌, map, length, get_or, set, refl, sym, ap, subst, arith}
use Rattle.std.specs.Prelude.{All, Contains}
use Rattle.std.proofs.lemmas.Bool.{cases_eq}
use Rattle.std.proofs.lemmas.Grind.{elements}
use Rattle.std.proofs.lemmas.List.{get_or-set_other, get_or-set_same, length-set, length-append}
use Rattle.bosh_types.specs.declared.ending.Closing.{Closing}
use Rattle.server_ports.specs.Counts as ports
use Rattle.xmpp_backend.specs.Told.{GivesStanza, Told, given_too, has_wire, wires_of}
use Rattle.xmpp_backend.specs.declared.backend.Given.TheVariants as given
use Rattle.xmpp_backend.specs.declared.backend.Polled.{Polled}
use Rattle.xmpp_backend.specs.declared.backend.Polled.TheVariants as polled
use Rattle.stream_backend.specs.declared.looking.Look.{Look}
use Rattle.stream_backend.specs.declared.looking.Look.TheVariants as looks
use Rattle.stream_backend.specs.declared.stage.Stage.{Stage}
use Rattle.stream_backend.specs.declared.stage.Stage.TheVariants as stages
use Rattle.stream_backend.specs.Flow.{Flow, IsFlow}
use Rattle.stream_backend.specs.Lines.{IsStill, Line, StageTells, Tells}
use Rattle.stream_backend.specs.Serving.{AllStill, BeginsAt, BeginsIn, GivesOn, Hears, IsCalm, IsPlaceFor, IsSaidOf, IsServing, IsTied, IsTiedFlow, IsTiedStage, KnowsStage, Holds, PollsLines, SeesOne, Serving, TellsOn, TellsPolled, answers_after}
use Rattle.bosh_types.specs.declared.inward.Inward.{Inward}
use Rattle.xmpp_backend.specs.declared.backend.Given.{Given}
use Rattle.xmpp_stream.specs.Qualified.{qualified}
use Rattle.xmpp_stream.specs.Wire.{IsWritten}
use Rattle.stream_backend.proofs.TiedLemmas.{serving_ended, serving_gave, serving_still, serving_wants}

-- it was heard of before it was looked at
still_heard : (noisy : Bool) (old new : Line) → IsStill (record old { noisy = noisy }) new → IsStill old new
still_heard noisy old new (IsStill.quiet q f) = IsStill.quiet q f
still_heard noisy old new (IsStill.busy flow after o n t) = IsStill.busy flow after o n t
still_heard noisy old new (IsStill.leaving flow until e) = IsStill.leaving flow until e
still_heard noisy old new (IsStill.over e) = IsStill.over e

tells_noisy : (noisy : Bool) (look : Look) (old new : Line) → Tells look (record old { noisy = noisy }) new → Tells look old new
tells_noisy noisy look old new t = record {
  same = record { wire = t.same.wire; held = t.same.held; before = t.same.before };
  stage = t.stage;
  still = λ e. still_heard noisy old new (t.still e);
}

tells_heard : (look : Look) (old mid new : Line) → mid ≡ record old { noisy = mid.noisy } → Tells look mid new → Tells look old new
tells_heard look old mid new e t = tells_noisy mid.noisy look old new (subst (λ (l : Line). Tells look l new) e t)

module _ (xs ys zs : List Line) (h : Hears xs ys) where
  pub all_still : AllStill ys zs → AllStill xs zs
  all_still a = record {
    count = a.count ∙ h.count;
    each = λ k d n. tells_heard looks.Nothing (get_or xs k d) (get_or ys k d) (get_or zs k d) (h.each k d n) (a.each k d (omega (arith, n, h.count)));
  }

  pub tells_on : (at wire : ℕ) (look : Look) → SeesOne at look wire ys zs → TellsOn wire look xs zs
  tells_on at wire look s = record {
    count = s.count ∙ h.count;
    at = at;
    there = there;
    wire_is = λ d. sym (ap (λ (l : Line). l.wire) (h.each at d there)) ∙ s.wire_is d;
    tells = λ d. tells_heard look (get_or xs at d) (get_or ys at d) (get_or zs at d) (h.each at d there) (s.tells d);
    others = λ k d n a. by_look k d n (s.others k d (omega (arith, n, h.count)) a);
  }
    where
      there : at < length xs
      there = omega (arith, s.there, h.count)

      by_look : (k : ℕ) (d : Line) → k < length xs → (get_or zs k d ≡ get_or ys k d) ⊎ Tells looks.Nothing (get_or ys k d) (get_or zs k d) → IsCalm (get_or xs k d) (get_or zs k d)
      by_look k d n (inl e) = inl (subst (λ (l : Line). l ≡ record (get_or xs k d) { noisy = l.noisy }) (sym e) (h.each k d n))
      by_look k d n (inr t) = inr (tells_heard looks.Nothing (get_or xs k d) (get_or ys k d) (get_or zs k d) (h.each k d n) t)

pub serving_quiet : (told : Told) (xs zs : List Line) → IsServing told xs → AllStill xs zs → IsServing told zs
serving_quiet told xs zs h a = serving_still told xs zs h a.count (λ k d n. inr (a.each k d n))

pub serving_polled : (look : Look) (wire : ℕ) (told told' : Told) (result : Polled) (xs zs : List Line) → IsServing told xs → TellsOn wire look xs zs → TellsPolled look wire told told' result → IsServing told' zs
serving_polled looks.Nothing wire told told' result xs zs h o t = absurd t
serving_polled (looks.Item text) wire told told' result xs zs h o t = subst (λ (l : Told). IsServing l zs) (sym t.1) (serving_gave wire text told xs zs h o)
serving_polled (looks.Closed closing) wire told told' result xs zs h o t = subst (λ (l : Told). IsServing l zs) (sym t.1) (serving_ended wire closing told xs zs h o)
serving_polled looks.NoMemory wire told told' result xs zs h o t = subst (λ (l : Told). IsServing l zs) (sym t.1) (serving_wants wire told xs zs h o)

pub polls_lines : (look : Look) (wire : ℕ) (old new : Serving) (result : Polled) → TellsPolled look wire old.told new.told result
    → new.counts ≡ record old.counts { answers = answers_after result old.counts.answers } → TellsOn wire look old.lines new.lines → PollsLines old new result
polls_lines looks.Nothing wire old new result t c o = absurd t
polls_lines (looks.Item text) wire old new result t c o =
    subst (PollsLines old new) (sym t.0) (t.1, subst (λ (r : Polled). new.counts ≡ record old.counts { answers = answers_after r old.counts.answers }) t.0 c, o)
polls_lines (looks.Closed closing) wire old new result t c o =
    subst (PollsLines old new) (sym t.0) (t.1, subst (λ (r : Polled). new.counts ≡ record old.counts { answers = answers_after r old.counts.answers }) t.0 c, o)
polls_lines looks.NoMemory wire old new result t c o =
    subst (PollsLines old new) (sym t.0) (t.1, subst (λ (r : Polled). new.counts ≡ record old.counts { answers = answers_after r old.counts.answers }) t.0 c, (wire, o))

-- some line
abbrev nowhere : Line
nowhere = record { wire = 0; stage = stages.Over; held = false; noisy = false; before = record { opened = []; passed = []; given = []; closed = []; held = [] } }

stage_stanza : (text : List ℕ) (held : Bool) (old new : Stage Flow) → StageTells (looks.Item text) held old new → GivesStanza (polled.Out 0 text)
stage_stanza text held (stages.Open f) new t = t.1.2.stanza
stage_stanza text held (stages.Leaving f until) new t = absurd t
stage_stanza text held stages.Failed new t = absurd t
stage_stanza text held stages.Over new t = absurd (cc)

item_held : (text : List ℕ) (held : Bool) (old new : Stage Flow) → StageTells (looks.Item text) held old new → held ≡ false
item_held text held (stages.Open f) new t = t.0
item_held text held (stages.Leaving f until) new t = absurd t
item_held text held stages.Failed new t = absurd t
item_held text held stages.Over new t = absurd (cc)

closed_held : (closing : Closing) (held : Bool) (old new : Stage Flow) → StageTells (looks.Closed closing) held old new → held ≡ false
closed_held closing held (stages.Open f) new t = t.0
closed_held closing held (stages.Leaving f until) new t = absurd t
closed_held closing held stages.Failed new t = t.0
closed_held closing held stages.Over new t = absurd (cc)

pub gives_stanza : (look : Look) (wire : ℕ) (told told' : Told) (result : Polled) (xs zs : List Line) → TellsOn wire look xs zs → TellsPolled look wire told told' result → GivesStanza result
gives_stanza looks.Nothing wire told told' result xs zs o t = absurd t
gives_stanza (looks.Item text) wire told told' result xs zs o t =
    let k = o.tells nowhere in
    subst GivesStanza (sym t.0) (stage_stanza text (get_or xs o.at nowhere).held (get_or xs o.at nowhere).stage (get_or zs o.at nowhere).stage k.stage)
gives_stanza (looks.Closed closing) wire told told' result xs zs o t = subst GivesStanza (sym t.0) tt
gives_stanza looks.NoMemory wire told told' result xs zs o t = subst GivesStanza (sym t.0) tt

module _ (wire : ℕ) (look : Look) (told : Told) (xs zs : List Line) (h : IsServing told xs) (o : TellsOn wire look xs zs) where
  line : Line
  line = get_or xs o.at nowhere

  tied : IsTied told (get_or xs o.at nowhere)
  tied = h.tied o.at nowhere o.there

  was_opened : Contains (wires_of told.opened) wire
  was_opened = subst (λ (w : ℕ). Contains (wires_of told.opened) w) (o.wire_is nowhere) tied.opened

  is_unheld : (get_or xs o.at nowhere).held ≡ false → has_wire wire told.held ≡ false
  is_unheld e = ap (λ (w : ℕ). has_wire w told.held) (sym (o.wire_is nowhere)) ∙ sym tied.held ∙ e

pub gives_on : (look : Look) (wire : ℕ) (told told' : Told) (result : Polled) (xs zs : List Line) → IsServing told xs → TellsOn wire look xs zs → TellsPolled look wire told told' result → GivesOn told result
gives_on looks.Nothing wire told told' result xs zs h o t = absurd t
gives_on (looks.Item text) wire told told' result xs zs h o t =
    subst (GivesOn told) (sym t.0) (was_opened wire (looks.Item text) told xs zs h o, is_unheld wire (looks.Item text) told xs zs h o (item_held text (get_or xs o.at nowhere).held (get_or xs o.at nowhere).stage (get_or zs o.at nowhere).stage (o.tells nowhere).stage))
gives_on (looks.Closed closing) wire told told' result xs zs h o t =
    subst (GivesOn told) (sym t.0) (was_opened wire (looks.Closed closing) told xs zs h o, is_unheld wire (looks.Closed closing) told xs zs h o (closed_held closing (get_or xs o.at nowhere).held (get_or xs o.at nowhere).stage (get_or zs o.at nowhere).stage (o.tells nowhere).stage))
gives_on looks.NoMemory wire told told' result xs zs h o t = subst (GivesOn told) (sym t.0) tt

-- ---- a wire begins

pub begins_there : (wire at : ℕ) (before : Told) (to : List ℕ) (net net' : ports.Counts) (xs : List Line) (line : Line) → IsPlaceFor wire at xs → BeginsAt wire before to net net' line → BeginsIn wire before to net net' xs (set xs at line)
begins_there wire at before to net net' xs line p b = record {
  at = at;
  there = omega (arith, p.there, length-set xs at line);
  line = line;
  line_is = λ d. get_or-set_same xs at line d p.there;
  begins = b;
  longer = omega (arith, length-set xs at line);
  known = λ k n a. omega (arith, n, length-set xs at line);
  others = λ k d n a. get_or-set_other xs at k line d a;
  apart = p.apart;
  gone = λ d n. p.free d;
}

pub begins_behind : (wire : ℕ) (before : Told) (to : List ℕ) (net net' : ports.Counts) (xs ys : List Line) (line : Line) → ys ≡ xs ++ line ∷ [] → All (λ (l : Line). l.wire ≢ wire) xs → BeginsAt wire before to net net' line → BeginsIn wire before to net net' xs ys
begins_behind wire before to net net' xs ys line e none b = subst (BeginsIn wire before to net net' xs) (sym e) (record {
  at = length xs;
  there = omega (arith, length-append xs (line ∷ []));
  line = line;
  line_is = λ d. last xs line d;
  begins = b;
  longer = omega (arith, length-append xs (line ∷ []));
  known = λ k n a. front k (omega (arith, n, length-append xs (line ∷ []))) a;
  others = λ k d n a. first xs line d k (front k (omega (arith, n, length-append xs (line ∷ []))) a);
  apart = λ k d n a. none k d n;
  gone = λ d n. absurd (omega (arith, n));
})
  where
    last : (xs : List Line) (line d : Line) → get_or (xs ++ line ∷ []) (length xs) d ≡ line
    last xs line d = grind (arith, elements)

    first : (xs : List Line) (line d : Line) (k : ℕ) → k < length xs → get_or (xs ++ line ∷ []) k d ≡ get_or xs k d
    first xs line d k n = grind (arith, elements)

    front : (k : ℕ) → k < length xs + 1 → k ≢ length xs → k < length xs
    front k n a = grind (arith, a)

-- ---- what holds of every back end

said_of : (told : Told) (line : Line) → IsTied told line → KnowsStage IsFlow line.stage → IsSaidOf told line
said_of told line t k = λ flow e p g.
    let f : IsFlow flow = subst (KnowsStage IsFlow) e k in
    let s : IsTiedFlow told line.before line.wire flow = subst (IsTiedStage told line.before line.wire) e t.stream in
    record {
      elements = f.elements;
      written = subst (IsWritten flow.start_given flow.given flow.outgoing) (sym (s.passed ∙ ap (λ (xs : List Inward). xs ++ flow.passed) p)) f.written;
      read = f.read;
      given = s.given ∙ ap (λ (xs : List Given). xs ++ map (λ (x : List ℕ). given.Stanza x) flow.came) g ∙ ap (map (λ (x : List ℕ). given.Stanza x)) f.came_is ∙ twice f.elements;
    }
  where
    twice : (xs : List (List ℕ)) → map (λ (x : List ℕ). given.Stanza x) (map qualified xs) ≡ map (λ (x : List ℕ). given.Stanza (qualified x)) xs
    twice [] = refl
    twice (x ∷ xs) = ap (λ (ys : List Given). given.Stanza (qualified x) ∷ ys) (twice xs)

pub all_holds : (told : Told) (xs : List Line) → IsServing told xs → All (λ (line : Line). KnowsStage IsFlow line.stage) xs → Holds told xs
all_holds told xs h f = record { serving = h; flows = f; said = λ k d n. said_of told (get_or xs k d) (h.tied k d n) (f k d n) }
