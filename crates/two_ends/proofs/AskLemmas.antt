-- Which requests of a client are open.
use Rattle.std.proofs.Common.{◌≡◌, ℕ, zero, suc, ◌+◌, ◌-◌, ◌<◌, ◌≤◌, Bool, true, false, List, [], ◌∷◌, Some, None, length, map, refl, sym, ◌∙◌, ap, ap₂, arith, if◌then◌else◌}
use Rattle.std.specs.List.{find}
use Rattle.std.proofs.lemmas.List.{length-map}
use Rattle.bosh_client.specs.PlainClient.{Made, PlainClient, bytes_of, id_of}
use Rattle.bosh_client.specs.StandsFor.{AreFrom}
use Rattle.two_ends.specs.declared.world.World.{World}
use Rattle.two_ends.specs.Asked.{greatest_open, ids_of, if_open, is_open, last_of, lowest_open}
use Rattle.two_ends.specs.Worlds.{IsRest, IsWorld}
use Rattle.two_ends.proofs.CopyLemmas.{client_ids}
use Rattle.world_laws.specs.World.{PlainWorld}

-- so many numbers, from this one on
abbrev pub numbers : ℕ → ℕ → List ℕ
numbers first zero = []
numbers first (suc count) = first ∷ numbers (first + 1) count

ids_are : (first : ℕ) (requests : List Made) → AreFrom first requests → map id_of requests ≡ numbers first (length requests)
ids_are first [] ids = refl
ids_are first (request ∷ requests) ids = ap₂ (λ id others. id ∷ others) ids.0 (ids_are (first + 1) requests ids.1)

-- the ids of a world's requests
pub world_ids : (world : World) (w : PlainWorld) → IsRest world w → ids_of w.client ≡ numbers world.first (length world.sent.items)
world_ids world w is =
    let count : length world.sent.items ≡ length w.client.requests = ap length is.sent_are ∙ length-map w.client.requests bytes_of in
    ids_are w.client.setup.first w.client.requests (client_ids world.client w.client is.client)
    ∙ ap (λ n. numbers n (length w.client.requests)) (sym is.first_is)
    ∙ ap (numbers world.first) (sym count)

-- the first of them of which this is true is this one, or one of those after it
find_here : (p : ℕ → Bool) (n count : ℕ) → 1 ≤ count → p n ≡ true → find p (numbers n count) ≡ Some n
find_here p n zero some is = absurd (omega (arith, some))
find_here p n (suc count) some is = ap (λ b. if b then Some n else find p (numbers (n + 1) count)) is

find_on : (p : ℕ → Bool) (n count : ℕ) → p n ≡ false → find p (numbers n (suc count)) ≡ find p (numbers (n + 1) count)
find_on p n count is = ap (λ b. if b then Some n else find p (numbers (n + 1) count)) is

last_is : (n count : ℕ) → last_of (numbers n (suc count)) ≡ Some (n + count)
last_is n zero = ap Some (omega arith)
last_is n (suc count) = last_is (n + 1) count ∙ ap Some (omega arith)

-- what an id that was asked for tells
none_open : (c : PlainClient) (rid : ℕ) → if_open c (Some rid) ≡ None → is_open c rid ≡ false
none_open c rid is = by (is_open c rid) is
  where
    by : (b : Bool) → (if b then Some rid else None) ≡ None → b ≡ false
    by true is = absurd (cc)
    by false is = refl

some_open : (c : PlainClient) (rid id : ℕ) → if_open c (Some rid) ≡ Some id → (is_open c rid ≡ true) × (rid ≡ id)
some_open c rid id is = by (is_open c rid) is
  where
    by : (b : Bool) → (if b then Some rid else None) ≡ Some id → (b ≡ true) × (rid ≡ id)
    by true is = (refl, cc)
    by false is = absurd (cc)

-- what is left to look at, from this place on
abbrev pub Looked : World → ℕ → Type 0
Looked world place = (w : PlainWorld) → IsWorld world w → lowest_open w.client ≡ find (is_open w.client) (numbers (world.first + place) (length world.sent.items - place))

pub look_begins : (world : World) → Looked world 0
look_begins world w is =
    let first : world.first ≡ world.first + 0 = omega arith in
    let all : length world.sent.items ≡ length world.sent.items - 0 = omega arith in
    ap (find (is_open w.client)) (world_ids world w is.plain.rest)
    ∙ ap (λ n. find (is_open w.client) (numbers n (length world.sent.items))) first
    ∙ ap (λ k. find (is_open w.client) (numbers (world.first + 0) k)) all

pub looks_on : (world : World) (place : ℕ) → place < length world.sent.items → Looked world place
    → ((w : PlainWorld) → IsWorld world w → None ≡ if_open w.client (Some (world.first + place))) → Looked world (place + 1)
looks_on world place within looked none w is =
    let left = length world.sent.items - (place + 1) in
    let next : length world.sent.items - place ≡ suc left = omega (arith, within) in
    looked w is
    ∙ ap (λ n. find (is_open w.client) (numbers (world.first + place) n)) next
    ∙ find_on (is_open w.client) (world.first + place) left (none_open w.client (world.first + place) (sym (none w is)))
    ∙ ap (λ n. find (is_open w.client) (numbers n left)) (omega arith)

pub finds_it : (world : World) (place rid : ℕ) → place < length world.sent.items → Looked world place → (w : PlainWorld) → IsWorld world w
    → Some rid ≡ if_open w.client (Some (world.first + place)) → Some rid ≡ lowest_open w.client
finds_it world place rid within looked w is some =
    let found = some_open w.client (world.first + place) rid (sym some) in
    sym (looked w is ∙ find_here (is_open w.client) (world.first + place) (length world.sent.items - place) (omega (arith, within)) found.0 ∙ ap Some found.1)

pub finds_none : (world : World) (place : ℕ) → length world.sent.items ≤ place → Looked world place → (w : PlainWorld) → IsWorld world w → None ≡ lowest_open w.client
finds_none world place past looked w is =
    let none : length world.sent.items - place ≡ 0 = omega (arith, past) in
    sym (looked w is ∙ ap (λ n. find (is_open w.client) (numbers (world.first + place) n)) none)

-- the last one
pub last_asked : (world : World) (w : PlainWorld) → IsWorld world w → (last : ℕ) → length world.sent.items ≡ suc last
    → if_open w.client (Some (world.first + last)) ≡ greatest_open w.client
last_asked world w is last count =
    ap (if_open w.client) (sym (ap last_of (world_ids world w is.plain.rest ∙ ap (numbers world.first) count) ∙ last_is world.first last))
