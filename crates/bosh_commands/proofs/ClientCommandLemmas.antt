-- What the status of a client says, by how it ran.
use Rattle.std.proofs.Common.{◌≡◌, ◌≤◌, ℕ, zero, suc, Bool, true, false, length, List, [], ◌∷◌, Option, Some, None, Ok, Contains, inl, inr, refl, sym, ◌∙◌, subst, append-nil, arith, lit<}
use Rattle.std.specs.Prelude.{nat_le, ◌&&◌}
use Rattle.std.proofs.lemmas.Bool.{le-leb}
use Rattle.session_attrs.specs.Serving.{is_allowed_text}
use Rattle.session_laws.proofs.Tests.{both_true}
use Rattle.std.specs.Io.KnownBytes.{Appends}
use Rattle.bosh_client.specs.declared.setup.ClientSetup.{ClientSetup}
use Rattle.bosh_client.specs.PlainClient.{PlainClient}
use Rattle.bosh_client.specs.Setup.{is_setup}
use Rattle.bosh_types.specs.declared.condition.Condition.{Condition}
use Rattle.client_run.specs.Adding.{Adds, IsTalk}
use Rattle.client_run.specs.Handed.{GivesUpTo, Handed, Hands, as_lines, is_whole}
use Rattle.client_run.specs.Handing.{out_of}
use Rattle.client_run.proofs.HandedLemmas.{handed_less}
use Rattle.client_run.proofs.HandingLemmas.{appends_both}
use Rattle.bosh_ports.specs.Faults.{HasRisen}
use Rattle.bosh_ports.specs.Sink.{AppendsFront}
use Rattle.bosh_ports.proofs.FaultLemmas.{HasRisen-after, HasRisen-before}
use Rattle.client_run.specs.declared.running.ClientRan.{ClientRan}
use Rattle.client_run.specs.declared.running.ClientRan.TheVariants as ran
use Rattle.client_run.specs.Input.{WasFull}
use Rattle.client_run.specs.Ran.{EndsWith, IsSpent, Ran, RanBy, Scene}
use Rattle.client_run.specs.Worked.{IsDone}
use Rattle.bosh_commands.specs.ClientOptions.{Fits}
use Rattle.bosh_commands.specs.Why.{why_line}
use Rattle.bosh_commands.specs.declared.client_options.ClientOptions.{ClientOptions}
use Rattle.bosh_commands.specs.ClientCommand.{Ended, EndedBadly, EndedStuck, HasBad, IsRefused, IsSetupOf, Tells, Writes, bad_line, begun, ended_line, is_told, status_of, sunk_of}

-- a status that is neither 5 nor 6 is that of how the client ran
is_own : (own n r : ℕ) → Contains (own ∷ 5 ∷ 6 ∷ []) r → r ≡ n → (n ≡ 5 → ⊥) → (n ≡ 6 → ⊥) → own ≡ n
is_own own n r (zero, lt, e) is five six = e ∙ is
is_own own n r (suc zero, lt, e) is five six = absurd (five (sym is ∙ sym e))
is_own own n r (suc (suc zero), lt, e) is five six = absurd (six (sym is ∙ sym e))
is_own own n r (suc (suc (suc k)), lt, e) is five six = absurd (omega (arith, lt))

own_listed : (how : ClientRan) (r : ℕ) → status_of how ≡ r → Contains (0 ∷ 3 ∷ 4 ∷ 5 ∷ 6 ∷ 7 ∷ 8 ∷ 9 ∷ 13 ∷ 14 ∷ []) r
own_listed ran.SpawnFault r e = (6, lit< tt, e)
own_listed ran.NetFault r e = (5, lit< tt, e)
own_listed (ran.Bad n) r e = (1, lit< tt, e)
own_listed ran.ReadFault r e = (2, lit< tt, e)
own_listed ran.WriteFault r e = (3, lit< tt, e)
own_listed (ran.Ended condition) r e = (7, lit< tt, e)
own_listed (ran.Refused status) r e = (8, lit< tt, e)
own_listed ran.Stuck r e = (9, lit< tt, e)
own_listed ran.Done r e = (0, lit< tt, e)

pub asked_status : (how : ClientRan) (r : ℕ) → Contains (status_of how ∷ 5 ∷ 6 ∷ []) r → Contains (0 ∷ 3 ∷ 4 ∷ 5 ∷ 6 ∷ 7 ∷ 8 ∷ 9 ∷ 13 ∷ 14 ∷ []) r
asked_status how r (zero, lt, e) = own_listed how r e
asked_status how r (suc zero, lt, e) = (3, lit< tt, e)
asked_status how r (suc (suc zero), lt, e) = (4, lit< tt, e)
asked_status how r (suc (suc (suc k)), lt, e) = absurd (omega (arith, lt))

both_are : (a b : Bool) → a ≡ true → b ≡ true → (a && b) ≡ true
both_are true b is_a is_b = is_b
both_are false b is_a is_b = is_a

-- a client may begin with what the words say
pub begins_with : (options : ClientOptions) (first : ℕ) (seed : List ℕ) → Fits options
    → is_setup (record { first = first; to = options.to; wait = options.wait; hold = options.hold; ack = true; seed = seed; keys = 0 }) ≡ true
unfolding is_setup
begins_with options first seed fits =
    let host = both_true (nat_le (length options.to) 1023) (is_allowed_text options.to) fits.host in
    both_are _ _ (both_are _ _ (both_are _ _ (both_are _ _ (le-leb options.wait 120 fits.wait) (le-leb options.hold 4 fits.hold)) refl) host.0) host.1

-- the statuses of a text that is shown, and of a client that runs, are among those of the command
pub of_shown : (r : ℕ) → Contains (0 ∷ 5 ∷ []) r → Contains (0 ∷ 2 ∷ 3 ∷ 4 ∷ 5 ∷ 6 ∷ 7 ∷ 8 ∷ 9 ∷ 13 ∷ 14 ∷ []) r
of_shown r (zero, lt, e) = (0, lit< tt, e)
of_shown r (suc zero, lt, e) = (4, lit< tt, e)
of_shown r (suc (suc k), lt, e) = absurd (omega (arith, lt))

pub of_ask : (r : ℕ) → Contains (0 ∷ 3 ∷ 4 ∷ 5 ∷ 6 ∷ 7 ∷ 8 ∷ 9 ∷ 13 ∷ 14 ∷ []) r → Contains (0 ∷ 2 ∷ 3 ∷ 4 ∷ 5 ∷ 6 ∷ 7 ∷ 8 ∷ 9 ∷ 13 ∷ 14 ∷ []) r
of_ask r (zero, lt, e) = (0, lit< tt, e)
of_ask r (suc k, lt, e) = (suc (suc k), omega (arith, lt), e)

module _ (input : Option (List ℕ)) (s t : Scene) where
  own_read : (how : ClientRan) → RanBy input s t (Ok how) → status_of how ≡ 4 → HasRisen s.reads t.reads
  unfolding RanBy
  own_read ran.SpawnFault by is = absurd (omega (arith, is))
  own_read ran.NetFault by is = absurd (omega (arith, is))
  own_read (ran.Bad n) by is = absurd (omega (arith, is))
  own_read ran.ReadFault by is = by
  own_read ran.WriteFault by is = absurd (omega (arith, is))
  own_read (ran.Ended condition) by is = absurd (omega (arith, is))
  own_read (ran.Refused status) by is = absurd (omega (arith, is))
  own_read ran.Stuck by is = absurd (omega (arith, is))
  own_read ran.Done by is = absurd (omega (arith, is))

  own_net : (how : ClientRan) → RanBy input s t (Ok how) → status_of how ≡ 7 → HasRisen s.counts.faults t.counts.faults
  unfolding RanBy
  own_net ran.SpawnFault by is = absurd (omega (arith, is))
  own_net ran.NetFault by is = by
  own_net (ran.Bad n) by is = absurd (omega (arith, is))
  own_net ran.ReadFault by is = absurd (omega (arith, is))
  own_net ran.WriteFault by is = absurd (omega (arith, is))
  own_net (ran.Ended condition) by is = absurd (omega (arith, is))
  own_net (ran.Refused status) by is = absurd (omega (arith, is))
  own_net ran.Stuck by is = absurd (omega (arith, is))
  own_net ran.Done by is = absurd (omega (arith, is))

  own_spawn : (how : ClientRan) → RanBy input s t (Ok how) → status_of how ≡ 8 → HasRisen s.refusals t.refusals
  unfolding RanBy
  own_spawn ran.SpawnFault by is = by
  own_spawn ran.NetFault by is = absurd (omega (arith, is))
  own_spawn (ran.Bad n) by is = absurd (omega (arith, is))
  own_spawn ran.ReadFault by is = absurd (omega (arith, is))
  own_spawn ran.WriteFault by is = absurd (omega (arith, is))
  own_spawn (ran.Ended condition) by is = absurd (omega (arith, is))
  own_spawn (ran.Refused status) by is = absurd (omega (arith, is))
  own_spawn ran.Stuck by is = absurd (omega (arith, is))
  own_spawn ran.Done by is = absurd (omega (arith, is))

  module _ (how : ClientRan) (r : ℕ) (by : RanBy input s t (Ok how)) (listed : Contains (status_of how ∷ 5 ∷ 6 ∷ []) r) where
    pub asked_read : r ≡ 4 → HasRisen s.reads t.reads
    asked_read is = own_read how by (is_own (status_of how) 4 r listed is (λ e. omega (arith, e)) (λ e. omega (arith, e)))

    pub asked_net : r ≡ 7 → HasRisen s.counts.faults t.counts.faults
    asked_net is = own_net how by (is_own (status_of how) 7 r listed is (λ e. omega (arith, e)) (λ e. omega (arith, e)))

    pub asked_spawn : r ≡ 8 → HasRisen s.refusals t.refusals
    asked_spawn is = own_spawn how by (is_own (status_of how) 8 r listed is (λ e. omega (arith, e)) (λ e. omega (arith, e)))

  -- the sink failed while the client ran, or while it was told how it ran
  module _ (last r : ℕ) (first_falls : s.writes ≤ t.writes) (then_falls : t.writes ≤ last) where
    pub asked_write : (how : ClientRan) → RanBy input s t (Ok how) → (r ≡ 5 → (status_of how ≡ 5 → ⊥) → HasRisen t.writes last) → r ≡ 5 → HasRisen s.writes last
    unfolding RanBy
    asked_write ran.SpawnFault by told is = HasRisen-before s.writes t.writes last first_falls then_falls (told is (λ e. omega (arith, e)))
    asked_write ran.NetFault by told is = HasRisen-before s.writes t.writes last first_falls then_falls (told is (λ e. omega (arith, e)))
    asked_write (ran.Bad n) by told is = HasRisen-before s.writes t.writes last first_falls then_falls (told is (λ e. omega (arith, e)))
    asked_write ran.ReadFault by told is = HasRisen-before s.writes t.writes last first_falls then_falls (told is (λ e. omega (arith, e)))
    asked_write ran.WriteFault by told is = HasRisen-after s.writes t.writes last by then_falls
    asked_write (ran.Ended condition) by told is = HasRisen-before s.writes t.writes last first_falls then_falls (told is (λ e. omega (arith, e)))
    asked_write (ran.Refused status) by told is = HasRisen-before s.writes t.writes last first_falls then_falls (told is (λ e. omega (arith, e)))
    asked_write ran.Stuck by told is = HasRisen-before s.writes t.writes last first_falls then_falls (told is (λ e. omega (arith, e)))
    asked_write ran.Done by told is = HasRisen-before s.writes t.writes last first_falls then_falls (told is (λ e. omega (arith, e)))

-- What was written.

-- some lines, or a front of them, and then a text
writes_then : (whole : Bool) (given mid later : Option (List ℕ)) (faults between last : ℕ) (lines text : List ℕ) → between ≤ last → GivesUpTo whole given mid faults between lines → Appends mid later text
    → Writes whole (sunk_of given faults) (sunk_of later last) lines text
writes_then true given mid later faults between last lines text falls gives more = appends_both given mid later lines text gives more
writes_then false given mid later faults between last lines text falls (inl gives) more = inl (appends_both given mid later lines text gives more)
writes_then false given mid later faults between last lines text falls (inr ((front, others, parts, gave), risen)) more =
    inr (front, others, parts, appends_both given mid later front text gave more, HasRisen-after faults between last risen falls)

nothing_more : (mid later : Option (List ℕ)) → later ≡ mid → Appends mid later []
nothing_more mid later same = subst (λ o. Appends mid o []) (sym same) (by mid)
  where
    by : (o : Option (List ℕ)) → Appends o o []
    by None = tt
    by (Some bytes) = sym (append-nil bytes)

-- a client of these options ran, and what was handed out is written
module _ (options : ClientOptions) (setup : ClientSetup) (is : IsSetupOf options setup) (input : Option (List ℕ)) (s t : Scene) (s_is : s.known ≡ begun setup) (given mid later : Option (List ℕ)) (last : ℕ) (falls : t.writes ≤ last) where
  abbrev tells_by : (whole : Bool) (text : List ℕ) → Handed whole (out_of s.known given) (out_of t.known mid) s.writes t.writes → Appends mid later text → Tells options whole (sunk_of given s.writes) (sunk_of later last) text
  tells_by whole text handed more = record {
    setup = setup;
    is = is;
    known = t.known;
    stanzas = handed.stanzas;
    hands = subst (λ k. Hands k t.known handed.stanzas) s_is handed.hands;
    writes = writes_then whole given mid later s.writes t.writes last (as_lines handed.stanzas) text falls handed.gives more;
  }

  ended_by : (text : List ℕ) (P : PlainClient → Type 0) → Ran input s t P → Handed true (out_of s.known given) (out_of t.known mid) s.writes t.writes → Appends mid later text
      → Ended options input s.counts t.counts (sunk_of given s.writes) (sunk_of later last) text P
  ended_by text P by handed more = record {
    tells = tells_by true text handed more;
    after = by.after;
    emptied = by.emptied;
    dialled = by.dialled;
    talk = subst (λ k. Adds k t.known (IsTalk input)) s_is by.adds;
  }

  -- what came of it, where it was told so
  pub record IsTold (how : ClientRan) (r : ℕ) : Type 0 where
    pub by : RanBy input s t (Ok how)
    pub handed : Handed (is_whole (Ok how)) (out_of s.known given) (out_of t.known mid) s.writes t.writes
    pub listed : Contains (status_of how ∷ 5 ∷ 6 ∷ []) r
    pub bad : (line : ℕ) → how ≡ ran.Bad line → r ≡ 3 → Appends mid later (bad_line line)
    pub ended : (condition : Condition) → how ≡ ran.Ended condition → r ≡ 9 → Appends mid later (ended_line condition)
    pub quiet : is_told how ≡ false → later ≡ mid

  own_bad : (how : ClientRan) (r : ℕ) → IsTold how r → status_of how ≡ 3 → r ≡ 3 → HasBad options input (sunk_of given s.writes) (sunk_of later last)
  unfolding RanBy
  own_bad ran.SpawnFault r told is now = absurd (omega (arith, is))
  own_bad ran.NetFault r told is now = absurd (omega (arith, is))
  own_bad (ran.Bad n) r told is now = record { number = n; bad = told.by; tells = tells_by false (bad_line n) told.handed (told.bad n refl now) }
  own_bad ran.ReadFault r told is now = absurd (omega (arith, is))
  own_bad ran.WriteFault r told is now = absurd (omega (arith, is))
  own_bad (ran.Ended condition) r told is now = absurd (omega (arith, is))
  own_bad (ran.Refused status) r told is now = absurd (omega (arith, is))
  own_bad ran.Stuck r told is now = absurd (omega (arith, is))
  own_bad ran.Done r told is now = absurd (omega (arith, is))

  own_done : (how : ClientRan) (r : ℕ) → IsTold how r → status_of how ≡ 0 → Ended options input s.counts t.counts (sunk_of given s.writes) (sunk_of later last) [] IsDone
  unfolding RanBy
  own_done ran.SpawnFault r told is = absurd (omega (arith, is))
  own_done ran.NetFault r told is = absurd (omega (arith, is))
  own_done (ran.Bad n) r told is = absurd (omega (arith, is))
  own_done ran.ReadFault r told is = absurd (omega (arith, is))
  own_done ran.WriteFault r told is = absurd (omega (arith, is))
  own_done (ran.Ended condition) r told is = absurd (omega (arith, is))
  own_done (ran.Refused status) r told is = absurd (omega (arith, is))
  own_done ran.Stuck r told is = absurd (omega (arith, is))
  own_done ran.Done r told is = ended_by [] IsDone told.by told.handed (nothing_more mid later (told.quiet refl))

  own_ended : (how : ClientRan) (r : ℕ) → IsTold how r → status_of how ≡ 9 → r ≡ 9 → EndedBadly options input s.counts t.counts (sunk_of given s.writes) (sunk_of later last)
  unfolding RanBy
  own_ended ran.SpawnFault r told is now = absurd (omega (arith, is))
  own_ended ran.NetFault r told is now = absurd (omega (arith, is))
  own_ended (ran.Bad n) r told is now = absurd (omega (arith, is))
  own_ended ran.ReadFault r told is now = absurd (omega (arith, is))
  own_ended ran.WriteFault r told is now = absurd (omega (arith, is))
  own_ended (ran.Ended condition) r told is now = (condition, ended_by (ended_line condition) (EndsWith condition) told.by told.handed (told.ended condition refl now))
  own_ended (ran.Refused status) r told is now = absurd (omega (arith, is))
  own_ended ran.Stuck r told is now = absurd (omega (arith, is))
  own_ended ran.Done r told is now = absurd (omega (arith, is))

  pub asked_bad : (how : ClientRan) (r : ℕ) → IsTold how r → r ≡ 3 → HasBad options input (sunk_of given s.writes) (sunk_of later last)
  asked_bad how r told now = own_bad how r told (is_own (status_of how) 3 r told.listed now (λ e. omega (arith, e)) (λ e. omega (arith, e))) now

  pub asked_done : (how : ClientRan) (r : ℕ) → IsTold how r → r ≡ 0 → Ended options input s.counts t.counts (sunk_of given s.writes) (sunk_of later last) [] IsDone
  asked_done how r told now = own_done how r told (is_own (status_of how) 0 r told.listed now (λ e. omega (arith, e)) (λ e. omega (arith, e)))

  pub asked_ended : (how : ClientRan) (r : ℕ) → IsTold how r → r ≡ 9 → EndedBadly options input s.counts t.counts (sunk_of given s.writes) (sunk_of later last)
  asked_ended how r told now = own_ended how r told (is_own (status_of how) 9 r told.listed now (λ e. omega (arith, e)) (λ e. omega (arith, e))) now

  -- a status that tells a fault
  told_fault : (how : ClientRan) (n : ℕ) → Contains (4 ∷ 7 ∷ 8 ∷ 13 ∷ []) n → status_of how ≡ n → is_told how ≡ false
  told_fault ran.SpawnFault n at is = refl
  told_fault ran.NetFault n at is = refl
  told_fault (ran.Bad m) n (zero, lt, e) is = absurd (omega (arith, e, is))
  told_fault (ran.Bad m) n (suc zero, lt, e) is = absurd (omega (arith, e, is))
  told_fault (ran.Bad m) n (suc (suc zero), lt, e) is = absurd (omega (arith, e, is))
  told_fault (ran.Bad m) n (suc (suc (suc zero)), lt, e) is = absurd (omega (arith, e, is))
  told_fault (ran.Bad m) n (suc (suc (suc (suc k))), lt, e) is = absurd (omega (arith, lt))
  told_fault ran.ReadFault n at is = refl
  told_fault ran.WriteFault n at is = refl
  told_fault (ran.Ended condition) n (zero, lt, e) is = absurd (omega (arith, e, is))
  told_fault (ran.Ended condition) n (suc zero, lt, e) is = absurd (omega (arith, e, is))
  told_fault (ran.Ended condition) n (suc (suc zero), lt, e) is = absurd (omega (arith, e, is))
  told_fault (ran.Ended condition) n (suc (suc (suc zero)), lt, e) is = absurd (omega (arith, e, is))
  told_fault (ran.Ended condition) n (suc (suc (suc (suc k))), lt, e) is = absurd (omega (arith, lt))
  told_fault (ran.Refused status) n at is = refl
  told_fault ran.Stuck n at is = refl
  told_fault ran.Done n at is = refl

  -- it is neither of the sink nor of memory
  no_five : (n : ℕ) → Contains (4 ∷ 7 ∷ 8 ∷ 13 ∷ []) n → n ≡ 5 → ⊥
  no_five n (zero, lt, e) is = omega (arith, e, is)
  no_five n (suc zero, lt, e) is = omega (arith, e, is)
  no_five n (suc (suc zero), lt, e) is = omega (arith, e, is)
  no_five n (suc (suc (suc zero)), lt, e) is = omega (arith, e, is)
  no_five n (suc (suc (suc (suc k))), lt, e) is = omega (arith, lt)

  no_six : (n : ℕ) → Contains (4 ∷ 7 ∷ 8 ∷ 13 ∷ []) n → n ≡ 6 → ⊥
  no_six n (zero, lt, e) is = omega (arith, e, is)
  no_six n (suc zero, lt, e) is = omega (arith, e, is)
  no_six n (suc (suc zero), lt, e) is = omega (arith, e, is)
  no_six n (suc (suc (suc zero)), lt, e) is = omega (arith, e, is)
  no_six n (suc (suc (suc (suc k))), lt, e) is = omega (arith, lt)

  pub asked_failed : (how : ClientRan) (r : ℕ) → IsTold how r → Contains (4 ∷ 7 ∷ 8 ∷ 13 ∷ []) r → Tells options false (sunk_of given s.writes) (sunk_of later last) []
  asked_failed how r told at =
      let own = is_own (status_of how) r r told.listed refl (no_five r at) (no_six r at) in
      tells_by false [] (handed_less (is_whole (Ok how)) _ _ _ _ told.handed) (nothing_more mid later (told.quiet (told_fault how r at own)))

-- It was refused, or was stuck, and that was told as an error.
module _ (input : Option (List ℕ)) (s t : Scene) (given later : Option (List ℕ)) where
  own_refused : (how : ClientRan) → RanBy input s t (Ok how) → status_of how ≡ 13 → AppendsFront given later (why_line how) → IsRefused s.counts t.counts given later
  unfolding RanBy
  own_refused ran.SpawnFault by is told = absurd (omega (arith, is))
  own_refused ran.NetFault by is told = absurd (omega (arith, is))
  own_refused (ran.Refused status) by is told = record { status = status; other = by.0; dialled = by.1; told = told }
  own_refused (ran.Bad n) by is told = absurd (omega (arith, is))
  own_refused ran.ReadFault by is told = absurd (omega (arith, is))
  own_refused ran.WriteFault by is told = absurd (omega (arith, is))
  own_refused ran.Stuck by is told = absurd (omega (arith, is))
  own_refused (ran.Ended condition) by is told = absurd (omega (arith, is))
  own_refused ran.Done by is told = absurd (omega (arith, is))

  pub asked_refused : (how : ClientRan) (r : ℕ) → RanBy input s t (Ok how) → Contains (status_of how ∷ 5 ∷ 6 ∷ []) r → AppendsFront given later (why_line how) → r ≡ 13 → IsRefused s.counts t.counts given later
  asked_refused how r by listed told is = own_refused how by (is_own (status_of how) 13 r listed is (λ e. omega (arith, e)) (λ e. omega (arith, e))) told

module _ (options : ClientOptions) (setup : ClientSetup) (is : IsSetupOf options setup) (input : Option (List ℕ)) (s t : Scene) (s_is : s.known ≡ begun setup) (given mid later : Option (List ℕ)) (last : ℕ) (falls : t.writes ≤ last) (errors after : Option (List ℕ)) where
  own_stuck : (how : ClientRan) (r : ℕ) → IsTold options setup is input s t s_is given mid later last falls how r → status_of how ≡ 14 → AppendsFront errors after (why_line how) → EndedStuck options input s.counts t.counts (sunk_of given s.writes) (sunk_of later last) errors after
  unfolding RanBy ended_by
  own_stuck ran.SpawnFault r told now why = absurd (omega (arith, now))
  own_stuck ran.NetFault r told now why = absurd (omega (arith, now))
  own_stuck (ran.Refused status) r told now why = absurd (omega (arith, now))
  own_stuck (ran.Bad n) r told now why = absurd (omega (arith, now))
  own_stuck ran.ReadFault r told now why = absurd (omega (arith, now))
  own_stuck ran.WriteFault r told now why = absurd (omega (arith, now))
  own_stuck ran.Stuck r told now why = record {
    ended = ended_by options setup is input s t s_is given mid later last falls [] IsSpent told.by.0 told.handed (nothing_more mid later (told.quiet refl));
    full = subst (λ known. WasFull known.seen t.known.seen) s_is told.by.1;
    told = why;
  }
  own_stuck (ran.Ended condition) r told now why = absurd (omega (arith, now))
  own_stuck ran.Done r told now why = absurd (omega (arith, now))

  pub asked_stuck : (how : ClientRan) (r : ℕ) → IsTold options setup is input s t s_is given mid later last falls how r → AppendsFront errors after (why_line how) → r ≡ 14 → EndedStuck options input s.counts t.counts (sunk_of given s.writes) (sunk_of later last) errors after
  asked_stuck how r told why now = own_stuck how r told (is_own (status_of how) 14 r told.listed now (λ e. omega (arith, e)) (λ e. omega (arith, e))) why
