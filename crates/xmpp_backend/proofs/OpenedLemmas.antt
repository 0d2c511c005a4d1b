-- The open wires, and those on which something is owed or kept, were opened.
use Rattle.std.proofs.Common.{◌≡◌, ℕ, ◌==◌, true, false, not, List, [], ◌∷◌, ◌++◌, filter, length, refl, sym, subst, ap, ◌∙◌, arith, if◌then◌else◌}
use Rattle.std.specs.Prelude.{Contains, All, IsTrue}
use Rattle.std.proofs.lemmas.List.Elements.{All-filter, All-weaker, All-push, All-tail, All-contains, All-append, Contains-append_left, Contains-append_right}
use Rattle.std.proofs.lemmas.List.{map-append}
use Rattle.std.proofs.lemmas.Map.Views.{Contains-from_any}
use Rattle.std.proofs.lemmas.Bool.{eqb-true}
use Rattle.bosh_types.specs.declared.ending.Closing.{Closing}
use Rattle.bosh_types.specs.declared.ending.Closing.TheVariants.{RemoteConnectionFailed}
use Rattle.xmpp_backend.specs.Dues.{Due, Dues, OwedText, closed_from, has_room, held_from, is_on, opened_from, owes, owes_all, put_at, resumed_from}
use Rattle.xmpp_backend.specs.Owing.{AllWereOpened, GivesOnOpened, Owing}
use Rattle.xmpp_backend.specs.Told.{has_wire, wires_of, with_wire}
use Rattle.xmpp_backend.specs.declared.backend.Given.{Given}
use Rattle.xmpp_backend.specs.declared.backend.Given.TheVariants as given
use Rattle.xmpp_backend.specs.declared.backend.Polled.{Polled}
use Rattle.xmpp_backend.specs.declared.backend.Polled.TheVariants as polled
use Rattle.xmpp_backend.specs.declared.hold.Place.{Place}
use Rattle.xmpp_backend.specs.declared.hold.Place.TheVariants as places

-- the last of a list is in it
Contains-last : (xs : List ℕ) (x : ℕ) → Contains (xs ++ x ∷ []) x
Contains-last xs x = Contains-append_right xs (x ∷ []) x (0, omega arith, refl)

-- one opening more
pub wires_and : (opened : List (ℕ × List ℕ)) (wire : ℕ) (to : List ℕ) → wires_of (opened ++ (wire, to) ∷ []) ≡ wires_of opened ++ wire ∷ []
wires_and opened wire to = map-append (λ (o : ℕ × List ℕ). o.0) opened ((wire, to) ∷ [])

abbrev WasOpened : List ℕ → Due → Type 0
WasOpened opened due = Contains opened due.0

-- an open wire was opened
opened_wire : (opened wires : List ℕ) (wire : ℕ) → All (Contains opened) wires → has_wire wire wires ≡ true → Contains opened wire
opened_wire opened wires wire were is =
    All-contains (Contains opened) wires wire were (Contains-from_any {eq = λ q other. other == q} (λ q other same. sym (eqb-true other q same)) wire wires is)

-- a wire more was opened
more_opened : (opened : List ℕ) (wire : ℕ) (d : Dues) → AllWereOpened opened d → AllWereOpened (opened ++ wire ∷ []) d
more_opened opened wire d were =
    let kept : (x : ℕ) → Contains opened x → Contains (opened ++ wire ∷ []) x = λ x. Contains-append_left opened (wire ∷ []) x in
    record {
      wires = All-weaker (Contains opened) (Contains (opened ++ wire ∷ [])) kept d.wires were.wires;
      owed = All-weaker (WasOpened opened) (WasOpened (opened ++ wire ∷ [])) (λ due. kept due.0) d.owed were.owed;
      kept = All-weaker (WasOpened opened) (WasOpened (opened ++ wire ∷ [])) (λ due. kept due.0) d.kept were.kept;
    }

pub opened_resumed : (opened : List ℕ) (wire : ℕ) (d : Dues) → AllWereOpened opened d → AllWereOpened opened (resumed_from wire d)
opened_resumed opened wire d were = record {
  wires = were.wires;
  owed = All-append (WasOpened opened) d.owed (filter (is_on wire) d.kept) were.owed (All-filter (is_on wire) (WasOpened opened) d.kept were.kept);
  kept = All-filter (λ due. not (is_on wire due)) (WasOpened opened) d.kept were.kept;
}

pub opened_held : (opened : List ℕ) (wire : ℕ) (d : Dues) → AllWereOpened opened d → AllWereOpened opened (held_from wire d)
opened_held opened wire d were = record {
  wires = were.wires;
  owed = All-filter (λ due. not (is_on wire due)) (WasOpened opened) d.owed were.owed;
  kept = All-append (WasOpened opened) d.kept (filter (is_on wire) d.owed) were.kept (All-filter (is_on wire) (WasOpened opened) d.owed were.owed);
}

pub opened_closed : (opened : List ℕ) (wire : ℕ) (d : Dues) → AllWereOpened opened d → AllWereOpened opened (closed_from wire d)
opened_closed opened wire d were = record {
  wires = All-filter (λ other. not (other == wire)) (Contains opened) d.wires were.wires;
  owed = All-filter (λ due. not (is_on wire due)) (WasOpened opened) d.owed were.owed;
  kept = All-filter (λ due. not (is_on wire due)) (WasOpened opened) d.kept were.kept;
}

pub opened_opened : (opened : List ℕ) (wire : ℕ) (d : Dues) → AllWereOpened opened d → AllWereOpened (opened ++ wire ∷ []) (opened_from wire d)
opened_opened opened wire d were =
    let first : AllWereOpened (opened ++ wire ∷ []) (resumed_from wire d) = more_opened opened wire (resumed_from wire d) (opened_resumed opened wire d were) in
    record {
      wires = elim (has_wire wire d.wires) as (λ b. All (Contains (opened ++ wire ∷ [])) (if b then d.wires else d.wires ++ wire ∷ [])) [
        | true ↦ first.wires
        | false ↦ All-push (Contains (opened ++ wire ∷ [])) d.wires wire first.wires (Contains-last opened wire)
      ];
      owed = first.owed;
      kept = first.kept;
    }

-- a stanza was put on a wire that was opened
opened_put : (opened : List ℕ) (place : Place) (wire : ℕ) (text : List ℕ) (d : Dues) → Contains opened wire → AllWereOpened opened d → AllWereOpened opened (put_at place wire text d)
opened_put opened places.Nowhere wire text d is were = were
opened_put opened places.Owed wire text d is were = record {
  wires = were.wires;
  owed = All-push (WasOpened opened) d.owed (wire, given.Stanza text) were.owed is;
  kept = were.kept;
}
opened_put opened places.Kept wire text d is were = record {
  wires = were.wires;
  owed = were.owed;
  kept = All-push (WasOpened opened) d.kept (wire, given.Stanza text) were.kept is;
}
opened_put opened places.Refused wire text d is were = record {
  wires = All-filter (λ other. not (other == wire)) (Contains opened) d.wires were.wires;
  owed = were.owed;
  kept = All-push (WasOpened opened) d.kept (wire, given.Closed RemoteConnectionFailed) were.kept is;
}

pub opened_owes : (opened : List ℕ) (stanza : OwedText) (d : Dues) → AllWereOpened opened d → AllWereOpened opened (owes stanza d)
opened_owes opened stanza d were =
    let where_open : Place =
    if has_wire stanza.0 d.held then (if has_room stanza.0 (length stanza.1) d.kept then places.Kept else places.Refused) else places.Owed in
    elim (has_wire stanza.0 d.wires) as (λ b. has_wire stanza.0 d.wires ≡ b → AllWereOpened opened (put_at (if b then where_open else places.Nowhere) stanza.0 stanza.1 d)) [
      | true ↦ λ is. opened_put opened where_open stanza.0 stanza.1 d (opened_wire opened d.wires stanza.0 were.wires is) were
      | false ↦ λ is. were
    ] refl

pub opened_owes_all : (opened : List ℕ) (stanzas : List OwedText) (d : Dues) → AllWereOpened opened d → AllWereOpened opened (owes_all stanzas d)
opened_owes_all opened [] d were = were
opened_owes_all opened (stanza ∷ stanzas) d were = opened_owes_all opened stanzas (owes stanza d) (opened_owes opened stanza d were)

-- the first of what was owed was given
pub opened_first : (opened : List ℕ) (d d' : Dues) (first : Due) → d.owed ≡ first ∷ d'.owed → d' ≡ record d { owed = d'.owed } → AllWereOpened opened d
    → Contains opened first.0 × AllWereOpened opened d'
opened_first opened d d' first is same were =
    let all : All (WasOpened opened) (first ∷ d'.owed) = subst (All (WasOpened opened)) is were.owed in (
      all 0 first (omega arith),
      subst (AllWereOpened opened) (sym same) (record { wires = were.wires; owed = All-tail (WasOpened opened) first d'.owed all; kept = were.kept }),
    )

-- these dues are those
pub opened_same : (opened opened' : List ℕ) (d d' : Dues) → opened' ≡ opened → d' ≡ d → AllWereOpened opened d → AllWereOpened opened' d'
opened_same opened opened' d d' first second were =
    subst (λ (o : List ℕ). AllWereOpened o d') (sym first) (subst (AllWereOpened opened) (sym second) were)

-- what is given is given on a wire that was opened
pub gives_opened : (owing : Owing) (wire : ℕ) (what : Given) (result : Polled) → ((text : List ℕ) → what ≡ given.Stanza text → result ≡ polled.Out wire text)
    → ((closing : Closing) → what ≡ given.Closed closing → result ≡ polled.Closed wire closing) → Contains (wires_of owing.done.opened) wire → GivesOnOpened owing result
gives_opened owing wire (given.Stanza text) result stanza closed is = subst (GivesOnOpened owing) (sym (stanza text refl)) is
gives_opened owing wire (given.Closed closing) result stanza closed is = subst (GivesOnOpened owing) (sym (closed closing refl)) is

pub pair_is : (stanza : OwedText) (wire : ℕ) (text : List ℕ) → wire ≡ stanza.0 → text ≡ stanza.1 → (wire, text) ≡ stanza
pair_is stanza wire text first second = ap (λ w. (w, text)) first ∙ ap (λ t. (stanza.0, t)) second
