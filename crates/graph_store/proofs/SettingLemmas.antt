-- Values that are set, and the last value of each id.
use Rattle.std.proofs.Common.{◌≡◌, ℕ, ℤ, ◌+◌, ◌-◌, ◌*◌, suc, zero, ◌<◌, ◌≤◌, take, get_or, false, cond, eqb, List, [], ◌∷◌, ◌++◌, length, map, set, sum_by, Option, Some, None, refl, sym, ◌∙◌, ap, inl, inr, arith}
use Rattle.std.specs.Ordering.{nat_cmp}
use Rattle.std.specs.BTreeMap.{is_at}
use Rattle.std.proofs.lemmas.List.{take_more}
use Rattle.std.proofs.lemmas.Bool.{cases_Bool, or_parts}
use Rattle.std.proofs.lemmas.Bool.Decides.{nat_tests}
use Rattle.std.specs.Cmp.Lexicographic.{slice_cmp}
use Rattle.std.specs.declared.cmp.Ordering.{Ordering}
use Rattle.std.specs.declared.cmp.Ordering.TheVariants.{Less, Equal, Greater}
use Rattle.std.proofs.lemmas.List.Sums.{sum_by-cons}
use Rattle.std.proofs.lemmas.Map.Lookups.{exact_bytes}
use Rattle.std.proofs.Math.Nat.{mul-suc}
use Rattle.store_tables.specs.Slots.{slot_at, slot_count}
use Rattle.store_tables.specs.Counted.{key_weight}
use Rattle.store_tables.proofs.SlotLemmas.{sum_by-set_slot}
use Rattle.graph_model.specs.declared.graph.Prop.{Prop}
use Rattle.graph_model.specs.Lists.{first_there}
use Rattle.graph_model.specs.Change.{place_prop, set_prop, last_value, value_for, pair_id, is_listed}

-- ---- one value is set

-- how many values there are then, by how the key compares with the first one's
length-place_prop : (o : Ordering) (new first : Prop) (rest placed : List Prop) → length rest ≤ length placed → length placed ≤ length rest + 1 → (length rest + 1 ≤ length (place_prop o new first rest placed)) × (length (place_prop o new first rest placed) ≤ length rest + 2)
length-place_prop Less new first rest placed low high = (omega arith, omega arith)
length-place_prop Equal new first rest placed low high = (omega arith, omega arith)
length-place_prop Greater new first rest placed low high = (omega arith, omega arith)

-- there is at most one value more
pub length-set_prop : (key : List ℕ) (value : ℤ) (props : List Prop) → (length props ≤ length (set_prop key value props)) × (length (set_prop key value props) ≤ length props + 1)
length-set_prop key value [] = (omega arith, omega arith)
length-set_prop key value (first ∷ rest) =
    let placed = length-set_prop key value rest in
    let whole = length-place_prop (slice_cmp nat_cmp key first.key) (record { key = key; value = value }) first rest (set_prop key value rest) placed.0 placed.1 in
    (omega (arith, whole.0), omega (arith, whole.1))

-- how much the keys weigh then, by how the key compares with the first one's
weight-place_prop : (o : Ordering) (weight : List ℕ → ℕ) (new first : Prop) (rest placed : List Prop) → (o ≡ Equal → new.key ≡ first.key) → length rest ≤ length placed → key_weight weight placed ≡ key_weight weight rest + (length placed - length rest) * weight new.key → key_weight weight (place_prop o new first rest placed) ≡ key_weight weight (first ∷ rest) + (length (place_prop o new first rest placed) - length (first ∷ rest)) * weight new.key
weight-place_prop Less weight new first rest placed same low grown =
    let more : length (new ∷ first ∷ rest) - length (first ∷ rest) ≡ 1 = omega arith in
    rw more (omega (arith, sum_by-cons (λ (prop : Prop). weight prop.key) new (first ∷ rest)))
weight-place_prop Equal weight new first rest placed same low grown =
    let more : length (new ∷ rest) - length (first ∷ rest) ≡ 0 = omega arith in
    let equal : weight new.key ≡ weight first.key = ap weight (same refl) in
    rw more (omega (arith, equal, sum_by-cons (λ (prop : Prop). weight prop.key) new rest, sum_by-cons (λ (prop : Prop). weight prop.key) first rest))
weight-place_prop Greater weight new first rest placed same low grown =
    let more : length (first ∷ placed) - length (first ∷ rest) ≡ length placed - length rest = omega arith in
    rw more (omega (arith, grown, sum_by-cons (λ (prop : Prop). weight prop.key) first placed, sum_by-cons (λ (prop : Prop). weight prop.key) first rest))

weight-set_prop : (weight : List ℕ → ℕ) (key : List ℕ) (value : ℤ) (props : List Prop) → key_weight weight (set_prop key value props) ≡ key_weight weight props + (length (set_prop key value props) - length props) * weight key
weight-set_prop weight key value [] =
    let more : length (set_prop key value []) - length {A = Prop} [] ≡ 1 = refl in
    rw more (omega arith)
weight-set_prop weight key value (first ∷ rest) =
    weight-place_prop (slice_cmp nat_cmp key first.key) weight (record { key = key; value = value }) first rest (set_prop key value rest) (exact_bytes key first.key) (length-set_prop key value rest).0 (weight-set_prop weight key value rest)

-- how much more the keys in the slots weigh
pub sum_by-set_value : {A : Type 0} (props_of : A → List Prop) (with_props : A → List Prop → A) (weight : List ℕ → ℕ) (key : List ℕ) (value : ℤ) (slots after : List (Option A)) (id : ℕ) (x : A) (copy : A) (slot : Option A) (props : List Prop) → after ≡ set slots id slot → slot ≡ Some copy → copy ≡ with_props x props → props_of (with_props x props) ≡ props → Some x ≡ slot_at slots id → props ≡ set_prop key value (props_of x) → sum_by (slot_count (λ element. key_weight weight (props_of element))) after ≡ sum_by (slot_count (λ element. key_weight weight (props_of element))) slots + (length props - length (props_of x)) * weight key
sum_by-set_value props_of with_props weight key value slots after id x copy slot props stored filled copied changed is made =
    let whole = sum_by-set_slot (λ element. key_weight weight (props_of element)) slots id x (with_props x props) (sym is) in
    let grown : key_weight weight (props_of (with_props x props)) ≡ key_weight weight (props_of x) + (length props - length (props_of x)) * weight key = rw (changed, made) (weight-set_prop weight key value (props_of x)) in
    rw (stored, filled, copied) (omega (arith, whole, grown))

-- so many times as much and then more
pub add_times : (a b n : ℕ) → (a + b) * n ≡ a * n + b * n
add_times a b zero = omega arith
add_times a b (suc n) = omega (arith, add_times a b n, mul-suc (a + b) n, mul-suc a n, mul-suc b n)

-- ---- the last value of an id

first_there-assoc : {A : Type 0} (a b c : Option A) → first_there (first_there a b) c ≡ first_there a (first_there b c)
first_there-assoc None b c = refl
first_there-assoc (Some x) b c = refl

first_there-None : {A : Type 0} (a : Option A) → first_there a None ≡ a
first_there-None None = refl
first_there-None (Some x) = refl

-- the value of a pair behind others comes first
pub last_value-push : (pairs : List (ℕ × ℤ)) (pair : ℕ × ℤ) (id : ℕ) → last_value (pairs ++ pair ∷ []) id ≡ first_there (value_for id pair) (last_value pairs id)
last_value-push [] pair id = sym (first_there-None (value_for id pair))
last_value-push (first ∷ pairs) pair id =
    ap (λ o. first_there o (value_for id first)) (last_value-push pairs pair id) ∙ first_there-assoc (value_for id pair) (last_value pairs id) (value_for id first)

-- whether a key of a map is this one
pub is_at-nat : (a b : ℕ) → is_at (nat_cmp a) b ≡ eqb a b
is_at-nat a b = grind (arith, nat_tests)

-- a value that is put into a map of last values
pub last_value_more : (pairs : List (ℕ × ℤ)) (row : ℕ) (default : ℕ × ℤ) (value : ℤ) (before after : Option ℤ) (id : ℕ) → row < length pairs → value ≡ (get_or pairs row default).1 → before ≡ last_value (take row pairs) id → after ≡ cond (is_at (nat_cmp (get_or pairs row default).0) id) (Some value) before → after ≡ last_value (take (row + 1) pairs) id
last_value_more pairs row default value before after id within same was now =
    let pair = get_or pairs row default in
    rw (take_more pairs row default within, last_value-push (take row pairs) pair id)
    (elim (cases_Bool (eqb pair.0 id)) [
      | inl here ↦ rw here (rw (is_at-nat pair.0 id ∙ here) at now ∙ ap Some same)
      | inr apart ↦ rw apart (rw (is_at-nat pair.0 id ∙ apart) at now ∙ was)
    ])

-- an id of no pair has none
pub last_value-unlisted : (pairs : List (ℕ × ℤ)) (id : ℕ) → is_listed (map pair_id pairs) id ≡ false → last_value pairs id ≡ None
last_value-unlisted [] id unlisted = refl
last_value-unlisted (pair ∷ pairs) id unlisted =
    let parts = or_parts (eqb pair.0 id) (is_listed (map pair_id pairs) id) unlisted in
    rw (last_value-unlisted pairs id parts.1, parts.0) refl
