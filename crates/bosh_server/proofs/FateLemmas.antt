-- What becomes of links.
use Rattle.std.proofs.Common.{◌≡◌, ◌++◌, ◌∷◌, ◌+◌, ◌-◌, ◌^◌, ◌<◌, ◌≤◌, [], List, ℕ, Bool, Option, All, length, min, map, filter, arith, length-append, append_assoc, ap, ◌∙◌, subst, sym, refl}
use Rattle.std.proofs.Math.Logic.{∥∥₁_elim, ∥∥₁_map, ∥∥₁_prop}
use Rattle.std.proofs.lemmas.List.Elements.{All-append, All-cons, All-nil, All-weaker}
use Rattle.std.proofs.lemmas.List.Sums.{sum_by-append}
use Rattle.std.specs.Io.KnownBytes.{Keeps}
use Rattle.std.specs.List.{sum_by}
use Rattle.bosh_ports.specs.Link.{Closes}
use Rattle.bosh_ports.specs.Sink.{AppendsFront}
use Rattle.bosh_types.specs.declared.hosts.HostName.{HostName}
use Rattle.parked_gate.specs.Histories.{StartsWith}
use Rattle.parked_gate.specs.Passes.{known}
use Rattle.session_table.specs.declared.entry.Entry.{Entry}
use Rattle.session_table.specs.declared.opening.Limits.{Limits}
use Rattle.session_table.specs.declared.purse.Purse.{Purse}
use Rattle.serve_loop.specs.declared.polled_connection.PolledConnection.{PolledConnection}
use Rattle.serve_loop.specs.declared.polled_connection.Standing.{Standing}
use Rattle.serve_loop.specs.declared.trail.Traced.{Traced}
use Rattle.serve_loop.specs.declared.owed.Owed.TheVariants as owed
use Rattle.serve_loop.specs.Connections.{Answered, Outside, message, outside}
use Rattle.serve_loop.specs.Stepping.{StandsAt, Steps}
use Rattle.serve_loop.specs.Trail.{Setting, setting}
use Rattle.serve_loop.proofs.ConnectionLemmas.{nothing_yet}
use Rattle.bosh_server.specs.declared.fates.Away.{Away}
use Rattle.bosh_server.specs.declared.fates.Fate.{Fate}
use Rattle.bosh_server.specs.declared.fates.Fate.TheVariants as fates
use Rattle.bosh_server.specs.declared.fates.Past.{Past}
use Rattle.bosh_server.specs.Fates.{IsClosed, IsOfHistory, IsTurnedAway, IsFresh, IsServed, IsSiteOf, StandsSince}

-- one more of which it holds
pub all_more : {A : Type 0} (P : A → Type 0) (xs : List A) (x : A) → ∥ All P xs ∥₁ → ∥ P x ∥₁ → ∥ All P (xs ++ x ∷ []) ∥₁
all_more P xs x all one = ∥∥₁_elim all ∥∥₁_prop (λ a. ∥∥₁_map one (λ p. All-append P xs (x ∷ []) a (All-cons P x [] p (All-nil P))))

-- what begins a history begins each that goes on from it
pub begun_by : {A : Type 0} (xs ys zs : List A) → StartsWith ys xs → StartsWith zs ys → StartsWith zs xs
begun_by xs ys zs (more, is) (rest, is_too) = (more ++ rest, is_too ∙ (ap (λ l. l ++ rest) is ∙ append_assoc xs more rest))

of_more : {L : Type 0} (old new : List Entry) (fate : Fate L) → StartsWith new old → IsOfHistory old fate → IsOfHistory new fate
of_more old new (fates.Served p) more is = begun_by (known p.last.value.directory).seen old new is more
of_more old new (fates.TurnedAway a) more is = tt
of_more old new (fates.NoMemory a) more is = tt

pub of_longer : {L : Type 0} (old new : List Entry) (all : List (Fate L)) → StartsWith new old → ∥ All (IsOfHistory old) all ∥₁ → ∥ All (IsOfHistory new) all ∥₁
of_longer old new all more of_one = ∥∥₁_map of_one (All-weaker (IsOfHistory old) (IsOfHistory new) (λ fate is. of_more old new fate more is) all)

pub of_longer_each : {L : Type 0} (old new : List Entry) (roll : List (List (Fate L))) → StartsWith new old → ∥ All (λ fates. All (IsOfHistory old) fates) roll ∥₁
    → ∥ All (λ fates. All (IsOfHistory new) fates) roll ∥₁
of_longer_each old new roll more of_one =
    ∥∥₁_map of_one (All-weaker (λ fates. All (IsOfHistory old) fates) (λ fates. All (IsOfHistory new) fates)
    (λ each is. All-weaker (IsOfHistory old) (IsOfHistory new) (λ fate begun. of_more old new fate more begun) each is) roll)

-- a count that goes with a list, to the end of its type
pub counted_more : {A : Type 0} (xs : List A) (x : A) (n m : ℕ) → n ≡ min (length xs) (2 ^ 64 - 1) → m ≡ min (n + 1) (2 ^ 64 - 1)
    → m ≡ min (length (xs ++ x ∷ [])) (2 ^ 64 - 1)
counted_more xs x n m is more = omega (arith, length-append xs (x ∷ []), is, more)

-- and one that goes with lists
pub summed_more : {A : Type 0} (xss : List (List A)) (xs : List A) (n k m : ℕ) → n ≡ min (sum_by length xss) (2 ^ 64 - 1) → k ≡ min (length xs) (2 ^ 64 - 1)
    → m ≡ min (n + k) (2 ^ 64 - 1) → m ≡ min (sum_by length (xss ++ xs ∷ [])) (2 ^ 64 - 1)
summed_more xss xs n k m is one more = omega (arith, sum_by-append length xss (xs ∷ []), is, one, more)

-- steps that are made at the site of a server
pub goes_on : (site : Setting) (hosts : List HostName) (limits : Limits) (moment : Option ℕ) (start old new : Outside) (a b : Standing) → ∥ IsSiteOf site hosts limits ∥₁
    → ∥ moment ≡ site.moment ∥₁ → Steps (setting hosts limits moment) old new a b
    → ∥ StandsAt site start old a.place a.stage ∥₁ → ∥ StandsAt site start new b.place b.stage ∥₁
goes_on site hosts limits moment start old new a b is now steps stands =
    let At : List HostName → Limits → Option ℕ → Type 0 = λ h l m. StandsAt (setting h l m) start old a.place a.stage → StandsAt (setting h l m) start new b.place b.stage in
    ∥∥₁_elim is ∥∥₁_prop
    (λ e. ∥∥₁_elim now ∥∥₁_prop
    (λ m. ∥∥₁_map stands
    (subst (λ x. At site.hosts site.limits x) m (subst (λ x. At site.hosts x moment) e.1 (subst (λ x. At x limits moment) e.0 (steps start))))))

-- another share of a clock
pub same_moment : (site : Setting) (m m' : Option ℕ) → m' ≡ m → ∥ m ≡ site.moment ∥₁ → ∥ m' ≡ site.moment ∥₁
same_moment site m m' same is = ∥∥₁_map is (λ e. same ∙ e)

-- the site of a server, in its parts
pub site_parts : (site : Setting) (hosts : List HostName) (limits : Limits) (moment : Option ℕ) → setting hosts limits moment ≡ site → ∥ IsSiteOf site hosts limits ∥₁
site_parts site hosts limits moment is = ∣ (ap (λ s. s.hosts) is, ap (λ s. s.limits) is) ∣₁

pub site_moment : (site : Setting) (hosts : List HostName) (limits : Limits) (moment m : Option ℕ) → setting hosts limits moment ≡ site → m ≡ moment → ∥ m ≡ site.moment ∥₁
site_moment site hosts limits moment m is same = ∣ same ∙ ap (λ s. s.moment) is ∣₁

module _ {L : Type 0} (left given : L → Option (List ℕ)) (closed : L → Option Bool) (faults : L → ℕ) where
  -- a connection of which nothing was read
  pub begins : (site : Setting) (came link : L) (first purse : Purse) (trail : List Traced) (connection : PolledConnection) → came ≡ link → first ≡ purse
      → trail ≡ [] → IsFresh connection → StandsSince left given closed faults site came first link trail purse connection
  begins site came link first purse trail connection same kept none fresh =
      let start = outside [] (left came) (given came) [] first (faults came) in
      subst (λ s. StandsAt site start (outside connection.reader (left link) (given link) trail purse (faults link)) connection.standing.place s) (sym fresh.1) (
        [],
        subst (λ r. Answered site start [] (outside r (left link) (given link) trail purse (faults link))) (sym fresh.0)
            (subst (λ t. Answered site start [] (outside [] (left link) (given link) t purse (faults link))) (sym none)
            (subst (λ l. Answered site start [] (outside [] (left l) (given l) [] purse (faults l))) same
            (subst (λ p. Answered site start [] (outside [] (left came) (given came) [] p (faults came))) kept (nothing_yet site start)))),
      )

  -- a look at the link that takes nothing and gives nothing
  pub stands_on : (site : Setting) (came link link' : L) (first purse purse' : Purse) (trail trail' : List Traced) (connection connection' : PolledConnection)
      → left link' ≡ left link → given link' ≡ given link → faults link' ≡ faults link → trail' ≡ trail → purse' ≡ purse → connection' ≡ connection
      → ∥ StandsSince left given closed faults site came first link trail purse connection ∥₁
      → ∥ StandsSince left given closed faults site came first link' trail' purse' connection' ∥₁
  stands_on site came link link' first purse purse' trail trail' connection connection' l g f t p k stands =
      let start = outside [] (left came) (given came) [] first (faults came) in
      let At : Option (List ℕ) → Option (List ℕ) → ℕ → List Traced → Purse → PolledConnection → Type 0 =
      λ l g f t p k. ∥ StandsAt site start (outside k.reader l g t p f) k.standing.place k.standing.stage ∥₁ in
      subst (λ x. At x (given link') (faults link') trail' purse' connection') (sym l)
      (subst (λ x. At (left link) x (faults link') trail' purse' connection') (sym g)
      (subst (λ x. At (left link) (given link) x trail' purse' connection') (sym f)
      (subst (λ x. At (left link) (given link) (faults link) x purse' connection') (sym t)
      (subst (λ x. At (left link) (given link) (faults link) trail x connection') (sym p)
      (subst (λ x. At (left link) (given link) (faults link) trail purse x) (sym k) stands)))))

  -- a connection that is let go
  pub served_so : (site : Setting) (p : Past L) (link after : L) (purse : Purse) (connection : PolledConnection) → p.went.value ≡ link → p.end.value ≡ after
      → p.last.value ≡ purse → p.connection.value ≡ connection → IsClosed left given closed faults link after
      → ∥ StandsSince left given closed faults site p.came.value p.first.value link p.trail purse connection ∥₁ → ∥ IsServed left given closed faults site p ∥₁
  served_so site p link after purse connection went end last at shut stands =
      ∥∥₁_map stands
      (λ s. record {
        stood =
            subst (λ x. StandsSince left given closed faults site p.came.value p.first.value x p.trail p.last.value p.connection.value) (sym went)
            (subst (λ x. StandsSince left given closed faults site p.came.value p.first.value link p.trail x p.connection.value) (sym last)
            (subst (λ x. StandsSince left given closed faults site p.came.value p.first.value link p.trail purse x) (sym at) s));
        shut = subst (λ x. IsClosed left given closed faults x p.end.value) (sym went) (subst (λ x. IsClosed left given closed faults link x) (sym end) shut);
      })

  -- a link that is turned away
  pub turned_so : (a : Away L) (link after : L) → a.came.value ≡ link → a.end.value ≡ after → Keeps (left link) (left after)
      → AppendsFront (given link) (given after) (message owed.NoMemory) → Closes (closed link) (closed after) → faults link ≤ faults after
      → IsTurnedAway left given closed faults a
  turned_so a link after came end l g k f =
      record {
        unread = subst (λ x. Keeps (left x) (left a.end.value)) (sym came) (subst (λ x. Keeps (left link) (left x)) (sym end) l);
        told = subst (λ x. AppendsFront (given x) (given a.end.value) (message owed.NoMemory)) (sym came)
            (subst (λ x. AppendsFront (given link) (given x) (message owed.NoMemory)) (sym end) g);
        shut = subst (λ x. Closes (closed x) (closed a.end.value)) (sym came) (subst (λ x. Closes (closed link) (closed x)) (sym end) k);
        faults_rise = subst (λ x. faults x ≤ faults a.end.value) (sym came) (subst (λ x. faults link ≤ faults x) (sym end) f);
      }

  -- and one for which there is no memory
  pub given_up_so : (a : Away L) (link after : L) → a.came.value ≡ link → a.end.value ≡ after → IsClosed left given closed faults link after
      → IsClosed left given closed faults a.came.value a.end.value
  given_up_so a link after came end k =
      subst (λ x. IsClosed left given closed faults x a.end.value) (sym came) (subst (λ x. IsClosed left given closed faults link x) (sym end) k)
