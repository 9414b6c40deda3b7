-- What the search for a name finds in rows of names, as rows come and numbers change.
use Rattle.std.proofs.Common.{◌≡◌, ℕ, ◌+◌, ◌-◌, ◌<◌, ◌≤◌, Bool, true, false, cond, eqb, ◌⊎◌, List, [], ◌∷◌, ◌++◌, length, take, drop, set, Option, Some, None, unwrap_or, append_assoc, refl, sym, ◌∙◌, ap, subst, inl, inr, suc, zero, arith}
use Rattle.std.specs.List.{slice_get}
use Rattle.std.specs.Str.{bytes_eq}
use Rattle.std.proofs.lemmas.Bool.{cases_Bool, eq-eqb, ne_eqb}
use Rattle.std.proofs.lemmas.List.{append-nil, length-append, length-take-le}
use Rattle.std.proofs.lemmas.List.Sums.{sum_by-append, sum_by-cons, sum_by_push}
use Rattle.std.proofs.lemmas.Slice.Eq.{bytes_eq-Decides}
use Rattle.store_tables.specs.declared.name_row.NameRow.{NameRow}
use Rattle.store_tables.specs.NameRows.{turns_high, next_place, followed, found_from, row_count, count_under, told_count, IsSearchable, IsReached, EndsAt, GoesOn}

-- ---- one name

pub bytes_eq-same : (name : List ℕ) → bytes_eq name name ≡ true
bytes_eq-same name = (bytes_eq-Decides name name).1 refl

-- ---- where a search goes

-- a place that none of the rows has
abbrev pub IsAway : ℕ → ℕ → List NameRow → Type 0
IsAway place first rows = (place < first) ⊎ (first + length rows ≤ place)

-- the search comes past rows to the place behind them
pub found-past : (name : List ℕ) (between rest : List NameRow) (first place depth : ℕ) → first + length between ≡ place → found_from name (between ++ rest) first place depth ≡ found_from name rest place place depth
found-past name [] rest first place depth is =
    let same : first ≡ place = omega arith in ap (λ n. found_from name rest n place depth) same
found-past name (row ∷ between) rest first place depth is =
    let apart : eqb place first ≡ false = ne_eqb place first (λ same. omega arith) in
    rw apart (found-past name between rest (first + 1) place depth (omega arith))

-- nothing is found at a place that none of the rows has
pub found-none : (name : List ℕ) (rows : List NameRow) (first place depth : ℕ) → IsAway place first rows → found_from name rows first place depth ≡ 0
found-none name [] first place depth away = refl
found-none name (row ∷ rows) first place depth (inl before) =
    let apart : eqb place first ≡ false = ne_eqb place first (λ same. omega arith) in
    rw apart (found-none name rows (first + 1) place depth (inl (omega arith)))
found-none name (row ∷ rows) first place depth (inr behind) =
    let apart : eqb place first ≡ false = ne_eqb place first (λ same. omega arith) in
    rw apart (found-none name rows (first + 1) place depth (inr (omega arith)))

-- where the same is found in what stands behind some rows, the same is found from these on
pub found-same : (name : List ℕ) (front back other : List NameRow) (first behind : ℕ) → first + length front ≡ behind → ((place depth : ℕ) → found_from name back behind place depth ≡ found_from name other behind place depth) → (place depth : ℕ) → found_from name (front ++ back) first place depth ≡ found_from name (front ++ other) first place depth
found-same name [] back other first behind is same place depth =
    let here : first ≡ behind = omega arith in rw here (same place depth)
found-same name (row ∷ front) back other first behind is same place depth =
    let rest = found-same name front back other (first + 1) behind (omega arith) same in
    let on = rest (next_place row (turns_high name depth)) (depth + 1) in
    let past = rest place depth in cc

-- the row that a search has come to
pub found-here : (name : List ℕ) (row : NameRow) (rest : List NameRow) (place depth : ℕ) → found_from name (row ∷ rest) place place depth ≡ cond (bytes_eq name row.name) row.count (found_from name rest (place + 1) (next_place row (turns_high name depth)) (depth + 1))
found-here name row rest place depth = rw (eq-eqb place place refl) refl

-- the search for a name begins at the first row
pub reached-first : (name : List ℕ) → IsReached name [] 0
reached-first name = record { goes_on = λ rest. refl }

-- the search for a name goes on
pub reached-next : (name : List ℕ) (front between : List NameRow) (row : NameRow) (depth : ℕ) → IsReached name front depth → bytes_eq name row.name ≡ false → next_place row (turns_high name depth) ≡ length front + 1 + length between → IsReached name (front ++ row ∷ between) (depth + 1)
reached-next name front between row depth reached apart follows =
    let long : length (front ++ row ∷ between) ≡ length front + 1 + length between = omega (arith, length-append front (row ∷ between)) in
    record {
      goes_on = λ rest.
          ap (λ rows. found_from name rows 0 0 0) (append_assoc front (row ∷ between) rest)
          ∙ reached.goes_on (row ∷ between ++ rest)
          ∙ found-here name row (between ++ rest) (length front) depth
          ∙ rw (apart, follows, long) (found-past name between rest (length front + 1) (length front + 1 + length between) (depth + 1) refl);
    }

-- what is found in the end
pub found-named : (name : List ℕ) (front back : List NameRow) (row : NameRow) (depth : ℕ) → IsReached name front depth → bytes_eq name row.name ≡ true → found_from name (front ++ row ∷ back) 0 0 0 ≡ row.count
found-named name front back row depth reached same =
    reached.goes_on (row ∷ back) ∙ found-here name row back (length front) depth ∙ rw same refl

pub found-missing : (name : List ℕ) (front back : List NameRow) (row : NameRow) (depth : ℕ) → IsReached name front depth → bytes_eq name row.name ≡ false → IsAway (next_place row (turns_high name depth)) (length front + 1) back → found_from name (front ++ row ∷ back) 0 0 0 ≡ 0
found-missing name front back row depth reached apart away =
    reached.goes_on (row ∷ back) ∙ found-here name row back (length front) depth ∙ rw apart (found-none name back (length front + 1) _ (depth + 1) away)

-- ---- the number under a name

count-apart : (name : List ℕ) (row : NameRow) → bytes_eq name row.name ≡ false → row_count name row ≡ 0
count-apart name row apart = rw apart refl

pub count-parts : (name : List ℕ) (front back : List NameRow) (row : NameRow) → count_under (front ++ row ∷ back) name ≡ count_under front name + (row_count name row + count_under back name)
count-parts name front back row =
    sum_by-append (row_count name) front (row ∷ back) ∙ ap (λ n. count_under front name + n) (sum_by-cons (row_count name) row back)

-- ---- a number changes

-- another number in a row
abbrev pub recount : NameRow → ℕ → NameRow
recount row count = record row { count = count }

pub searchable-recounted : (front back : List NameRow) (row : NameRow) (depth count : ℕ) → IsReached row.name front depth → IsSearchable (front ++ row ∷ back) → (name : List ℕ)
    → (found_from name (front ++ recount row count ∷ back) 0 0 0 ≡ count_under (front ++ recount row count ∷ back) name) × (count_under (front ++ recount row count ∷ back) name ≡ cond (bytes_eq name row.name) count (count_under (front ++ row ∷ back) name))
searchable-recounted front back row depth count reached searchable name =
    let before = count-parts name front back row in
    let after = count-parts name front back (recount row count) in
    elim (cases_Bool (bytes_eq name row.name)) [
      | inl same ↦
          let named : name ≡ row.name = (bytes_eq-Decides name row.name).0 same in
          let here : IsReached name front depth = subst (λ n. IsReached n front depth) (sym named) reached in
          let was = found-named name front back row depth here same in
          let is = found-named name front back (recount row count) depth here same in
          let all = searchable.finds name in
          let own : row_count name row ≡ row.count = rw same refl in
          let new : row_count name (recount row count) ≡ count = rw same refl in
          let sum : count_under (front ++ recount row count ∷ back) name ≡ count = omega (arith, before, after, was, all, own, new) in
          (is ∙ sym sum, rw same sum)
      | inr apart ↦
          let other = found-same name front (row ∷ back) (recount row count ∷ back) 0 (length front) (omega arith) (λ place d. rw apart refl) 0 0 in
          let sum : count_under (front ++ recount row count ∷ back) name ≡ count_under (front ++ row ∷ back) name =
          omega (arith, before, after, count-apart name row apart, count-apart name (recount row count) apart) in
          (sym other ∙ searchable.finds name ∙ sym sum, rw apart sum)
    ]

-- ---- a row comes

-- a row that none follows
abbrev pub last_row : List ℕ → ℕ → NameRow
last_row name count = record { name = name; count = count; low = None; high = None }

-- the same is found on each turn, where a row that none followed is followed by one that isn't there
next-same : (name : List ℕ) (row : NameRow) (back : List NameRow) (first depth next : ℕ) (turn high : Bool) → IsAway (next_place row high) first back → first + length back ≤ next → found_from name back first (next_place row turn) depth ≡ found_from name back first (next_place (followed row high next) turn) depth
next-same name row back first depth next true true away behind = found-none name back first _ depth away ∙ sym (found-none name back first next depth (inr behind))
next-same name row back first depth next false false away behind = found-none name back first _ depth away ∙ sym (found-none name back first next depth (inr behind))
next-same name row back first depth next true false away behind = refl
next-same name row back first depth next false true away behind = refl

same-followed : (name : List ℕ) (row : NameRow) (back : List NameRow) (first next : ℕ) (high : Bool) → IsAway (next_place row high) (first + 1) back → first + 1 + length back ≤ next → (place depth : ℕ) → found_from name (row ∷ back) first place depth ≡ found_from name (followed row high next ∷ back) first place depth
same-followed name row back first next high away behind place depth =
    let on = next-same name row back (first + 1) (depth + 1) next (turns_high name depth) high away behind in cc

cond_none : (b : Bool) → ◌≡◌ {A = ℕ} (cond b 0 0) 0
cond_none true = refl
cond_none false = refl

-- a row of another name behind all others changes nothing
found-pushed : (name : List ℕ) (rows : List NameRow) (new : List ℕ) (count : ℕ) → bytes_eq name new ≡ false → found_from name (rows ++ last_row new count ∷ []) 0 0 0 ≡ found_from name rows 0 0 0
found-pushed name rows new count apart =
    found-same name rows (last_row new count ∷ []) [] 0 (length rows) (omega arith) (λ place d. rw apart (cond_none (eqb place (length rows)))) 0 0
    ∙ ap (λ all. found_from name all 0 0 0) (append-nil rows)

-- the search for a new name finds its number
next-followed : (row : NameRow) (high : Bool) (next : ℕ) → next_place (followed row high next) high ≡ next
next-followed row true next = refl
next-followed row false next = refl

found-new : (front back : List NameRow) (row : NameRow) (new : List ℕ) (depth next count : ℕ) → IsReached new front depth → bytes_eq new row.name ≡ false → next ≡ length front + 1 + length back → found_from new ((front ++ followed row (turns_high new depth) next ∷ back) ++ last_row new count ∷ []) 0 0 0 ≡ count
found-new front back row new depth next count reached apart is =
    let link = followed row (turns_high new depth) next in
    let last : found_from new (last_row new count ∷ []) next next (depth + 1) ≡ count = found-here new (last_row new count) [] next (depth + 1) ∙ rw (bytes_eq-same new) refl in
    ap (λ rows. found_from new rows 0 0 0) (append_assoc front (link ∷ back) (last_row new count ∷ []))
    ∙ reached.goes_on (link ∷ back ++ last_row new count ∷ [])
    ∙ found-here new link (back ++ last_row new count ∷ []) (length front) depth
    ∙ rw (apart, next-followed row (turns_high new depth) next) (found-past new back (last_row new count ∷ []) (length front + 1) next (depth + 1) (sym is) ∙ last)

-- a row for a new name, which follows the last one that the search for the name comes to
pub searchable-pushed : (front back : List NameRow) (row : NameRow) (new : List ℕ) (depth next count : ℕ) → IsReached new front depth → bytes_eq new row.name ≡ false → IsAway (next_place row (turns_high new depth)) (length front + 1) back → next ≡ length front + 1 + length back → IsSearchable (front ++ row ∷ back) → (name : List ℕ)
    → (found_from name ((front ++ followed row (turns_high new depth) next ∷ back) ++ last_row new count ∷ []) 0 0 0 ≡ count_under ((front ++ followed row (turns_high new depth) next ∷ back) ++ last_row new count ∷ []) name)
    × (count_under ((front ++ followed row (turns_high new depth) next ∷ back) ++ last_row new count ∷ []) name ≡ count_under (front ++ row ∷ back) name + cond (bytes_eq name new) count 0)
searchable-pushed front back row new depth next count reached apart away is searchable name =
    let high = turns_high new depth in
    let link = followed row high next in
    let linked = front ++ link ∷ back in
    let before = count-parts name front back row in
    let after = count-parts name front back link in
    let pushed = sum_by_push (row_count name) linked (last_row new count) in
    let sum : count_under (linked ++ last_row new count ∷ []) name ≡ count_under (front ++ row ∷ back) name + cond (bytes_eq name new) count 0 = omega (arith, before, after, pushed) in
    let all = linked ++ last_row new count ∷ [] in
    elim (cases_Bool (bytes_eq name new)) [
      | inl same ↦
          let named : name ≡ new = (bytes_eq-Decides name new).0 same in
          let none : count_under (front ++ row ∷ back) new ≡ 0 = sym (searchable.finds new) ∙ found-missing new front back row depth reached apart away in
          let was : count_under (front ++ row ∷ back) name ≡ 0 = ap (count_under (front ++ row ∷ back)) named ∙ none in
          let here : found_from name all 0 0 0 ≡ count = ap (λ n. found_from n all 0 0 0) named ∙ found-new front back row new depth next count reached apart is in
          let own : cond (bytes_eq name new) count 0 ≡ count = rw same refl in
          (omega (arith, here, sum, was, own), sum)
      | inr other ↦
          let past = found-pushed name linked new count other in
          let back_same = found-same name front (row ∷ back) (link ∷ back) 0 (length front) (omega arith) (same-followed name row back (length front) next high away (omega (arith, is))) 0 0 in
          let own : cond (bytes_eq name new) count 0 ≡ 0 = rw other refl in
          (omega (arith, past, back_same, searchable.finds name, sum, own), sum)
    ]

-- ---- rows by their places

-- a row that is there
pub row-there : (rows : List NameRow) (place : ℕ) → place < length rows → (row : NameRow) × (slice_get rows place ≡ Some row)
row-there [] place within = absurd (omega arith)
row-there (row ∷ rows) zero within = (row, refl)
row-there (row ∷ rows) (suc place) within = row-there rows place (omega arith)

-- the rows before and behind a place, and what becomes of them when its row changes
pub record IsAt (rows : List NameRow) (place : ℕ) (row : NameRow) (front back : List NameRow) : Type 0 where
  pub whole : rows ≡ front ++ row ∷ back
  pub long : length front ≡ place
  pub changed : (new : NameRow) → set rows place new ≡ front ++ new ∷ back

pub rows-at : (rows : List NameRow) (place : ℕ) (row : NameRow) → slice_get rows place ≡ Some row → IsAt rows place row (take place rows) (drop (suc place) rows)
rows-at [] place row there = cc
rows-at (first ∷ rows) zero row there =
    let same : first ≡ row = cc in record { whole = rw same refl; long = refl; changed = λ new. refl }
rows-at (first ∷ rows) (suc place) row there =
    let rest = rows-at rows place row there in
    record {
      whole = ap (λ others. first ∷ others) rest.whole;
      long = omega (arith, rest.long);
      changed = λ new. ap (λ others. first ∷ others) (rest.changed new);
    }

take-parts : (front back : List NameRow) (row : NameRow) (more : ℕ) → take (length front + suc more) (front ++ row ∷ back) ≡ front ++ row ∷ take more back
take-parts [] back row more = let here : 0 + suc more ≡ suc more = omega arith in rw here refl
take-parts (first ∷ front) back row more =
    let here : suc (length front) + suc more ≡ suc (length front + suc more) = omega arith in
    rw here (ap (λ others. first ∷ others) (take-parts front back row more))

-- the search for a name goes on from the row of a place
pub reached-on : (name : List ℕ) (rows : List NameRow) (place depth next : ℕ) → place < length rows → IsReached name (take place rows) depth → GoesOn name rows place depth next → IsReached name (take next rows) (depth + 1)
reached-on name rows place depth next within reached on =
    let there = row-there rows place within in
    let row = there.0 in
    let front = take place rows in
    let back = drop (suc place) rows in
    let at = rows-at rows place row there.1 in
    let here = on.apart row there.1 in
    let more = next - place - 1 in
    let all : length rows ≡ length front + suc (length back) = ap length at.whole ∙ length-append front (row ∷ back) in
    let long : length (take more back) ≡ more = length-take-le more back (omega (arith, all, at.long, on.behind, on.within)) in
    let far : length front + suc more ≡ next = omega (arith, at.long, on.behind) in
    let parts : take next rows ≡ front ++ row ∷ take more back = ap (take next) at.whole ∙ ap (λ n. take n (front ++ row ∷ back)) (sym far) ∙ take-parts front back row more in
    let follows : next_place row (turns_high name depth) ≡ length front + 1 + length (take more back) = omega (arith, here.1, long, far) in
    subst (λ (rows : List NameRow). IsReached name rows (depth + 1)) (sym parts) (reached-next name front (take more back) row depth reached here.0 follows)

-- what is told of the row of a place
pub told-some : (name : List ℕ) (row : NameRow) (count : ℕ) → Some count ≡ told_count name row → (bytes_eq name row.name ≡ true) × (count ≡ row.count)
told-some name row count told =
    elim (cases_Bool (bytes_eq name row.name)) [
      | inl same ↦ let own : Some count ≡ Some row.count = rw same at told in (same, cc)
      | inr apart ↦ let none : Some count ≡ None = rw apart at told in absurd (cc)
    ]

pub told-none : (name : List ℕ) (row : NameRow) → None ≡ told_count name row → bytes_eq name row.name ≡ false
told-none name row told =
    elim (cases_Bool (bytes_eq name row.name)) [
      | inl same ↦ let own : None ≡ Some row.count = rw same at told in absurd (cc)
      | inr apart ↦ apart
    ]

-- ---- what is under a name where the search for it ends

-- the row has the name
pub count-here : (name : List ℕ) (rows : List NameRow) (place depth : ℕ) (row : NameRow) → slice_get rows place ≡ Some row → bytes_eq name row.name ≡ true → IsReached name (take place rows) depth → IsSearchable rows → count_under rows name ≡ row.count
count-here name rows place depth row there same reached searchable =
    sym (searchable.finds name) ∙ ap (λ (all : List NameRow). found_from name all 0 0 0) (rows-at rows place row there).whole
    ∙ found-named name (take place rows) (drop (suc place) rows) row depth reached same

-- none of the rows follows that isn't before
away-behind : (rows front back : List NameRow) (row : NameRow) (place next : ℕ) → length rows ≡ length front + suc (length back) → length front ≡ place → (next ≤ place) ⊎ (length rows ≤ next) → IsAway next (length front + 1) back
away-behind rows front back row place next all long (inl before) = inl (omega (arith, long))
away-behind rows front back row place next all long (inr behind) = inr (omega (arith, all))

-- no row has the name
pub count-none : (name : List ℕ) (rows : List NameRow) (place depth : ℕ) (row : NameRow) → slice_get rows place ≡ Some row → bytes_eq name row.name ≡ false → IsReached name (take place rows) depth → EndsAt name rows place depth → IsSearchable rows → count_under rows name ≡ 0
count-none name rows place depth row there apart reached ends searchable =
    let front = take place rows in
    let back = drop (suc place) rows in
    let at = rows-at rows place row there in
    let all : length rows ≡ length front + suc (length back) = ap length at.whole ∙ length-append front (row ∷ back) in
    let away = away-behind rows front back row place _ all at.long (ends.last row there apart) in
    sym (searchable.finds name) ∙ ap (λ (all : List NameRow). found_from name all 0 0 0) at.whole ∙ found-missing name front back row depth reached apart away

-- what is told of the last row
pub count-told : (name : List ℕ) (rows : List NameRow) (place depth : ℕ) (told : Option ℕ) → place < length rows → IsReached name (take place rows) depth → EndsAt name rows place depth → IsSearchable rows → ((row : NameRow) → slice_get rows place ≡ Some row → told ≡ told_count name row) → unwrap_or told 0 ≡ count_under rows name
count-told name rows place depth (Some count) within reached ends searchable is =
    let there = row-there rows place within in
    let own = told-some name there.0 count (is there.0 there.1) in
    own.1 ∙ sym (count-here name rows place depth there.0 there.1 own.0 reached searchable)
count-told name rows place depth None within reached ends searchable is =
    let there = row-there rows place within in
    sym (count-none name rows place depth there.0 there.1 (told-none name there.0 (is there.0 there.1)) reached ends searchable)

-- the number in the row of the name changes
pub recounted : (name : List ℕ) (rows after : List NameRow) (place depth count : ℕ) (row : NameRow) → slice_get rows place ≡ Some row → bytes_eq name row.name ≡ true → IsReached name (take place rows) depth → IsSearchable rows → after ≡ set rows place (recount row count)
    → IsSearchable after × ((other : List ℕ) → count_under after other ≡ cond (bytes_eq other name) count (count_under rows other))
recounted name rows after place depth count row there same reached searchable is =
    let front = take place rows in
    let back = drop (suc place) rows in
    let at = rows-at rows place row there in
    let named : name ≡ row.name = (bytes_eq-Decides name row.name).0 same in
    let here : IsReached row.name front depth = subst (λ (n : List ℕ). IsReached n front depth) named reached in
    let split : IsSearchable (front ++ row ∷ back) = subst (λ (all : List NameRow). IsSearchable all) at.whole searchable in
    let all = searchable-recounted front back row depth count here split in
    let is_after : after ≡ front ++ recount row count ∷ back = is ∙ at.changed (recount row count) in (
      record { finds = λ name. rw is_after (all name).0 },
      λ other.
          ap (λ (all : List NameRow). count_under all other) is_after ∙ (all other).1
          ∙ ap (λ n. cond (bytes_eq other row.name) count n) (ap (λ (all : List NameRow). count_under all other) (sym at.whole))
          ∙ ap (λ (n : List ℕ). cond (bytes_eq other n) count (count_under rows other)) (sym named),
    )

pub added-here : (name : List ℕ) (rows after : List NameRow) (place depth more sum : ℕ) (row : NameRow) → slice_get rows place ≡ Some row → bytes_eq name row.name ≡ true → IsReached name (take place rows) depth → IsSearchable rows → sum ≡ row.count + more → after ≡ set rows place (recount row sum)
    → IsSearchable after × ((other : List ℕ) → count_under after other ≡ count_under rows other + cond (bytes_eq other name) more 0)
added-here name rows after place depth more sum row there same reached searchable total is =
    let all = recounted name rows after place depth sum row there same reached searchable is in
    let own = count-here name rows place depth row there same reached searchable in (
      all.0,
      λ other. elim (cases_Bool (bytes_eq other name)) [
        | inl here ↦
            let named : count_under rows other ≡ count_under rows name = ap (count_under rows) ((bytes_eq-Decides other name).0 here) in
            let now : count_under after other ≡ sum = rw here at (all.1 other) in rw here (omega (arith, now, named, own, total))
        | inr apart ↦ let now : count_under after other ≡ count_under rows other = rw apart at (all.1 other) in rw apart (omega (arith, now))
      ],
    )

pub taken-here : (name : List ℕ) (rows after : List NameRow) (place depth left : ℕ) (row : NameRow) → slice_get rows place ≡ Some row → bytes_eq name row.name ≡ true → IsReached name (take place rows) depth → IsSearchable rows → left ≡ row.count - 1 → after ≡ set rows place (recount row left)
    → IsSearchable after × ((other : List ℕ) → count_under after other ≡ count_under rows other - cond (bytes_eq other name) 1 0)
taken-here name rows after place depth left row there same reached searchable less is =
    let all = recounted name rows after place depth left row there same reached searchable is in
    let own = count-here name rows place depth row there same reached searchable in (
      all.0,
      λ other. elim (cases_Bool (bytes_eq other name)) [
        | inl here ↦
            let named : count_under rows other ≡ count_under rows name = ap (count_under rows) ((bytes_eq-Decides other name).0 here) in
            let now : count_under after other ≡ left = rw here at (all.1 other) in rw here (omega (arith, now, named, own, less))
        | inr apart ↦ let now : count_under after other ≡ count_under rows other = rw apart at (all.1 other) in rw apart (omega (arith, now))
      ],
    )

-- nothing is taken where nothing is
pub taken-none : (name : List ℕ) (rows : List NameRow) → count_under rows name ≡ 0 → (other : List ℕ) → count_under rows other ≡ count_under rows other - cond (bytes_eq other name) 1 0
taken-none name rows none other =
    elim (cases_Bool (bytes_eq other name)) [
      | inl here ↦
          let named : count_under rows other ≡ count_under rows name = ap (count_under rows) ((bytes_eq-Decides other name).0 here) in rw here (omega (arith, named, none))
      | inr apart ↦ rw apart (omega arith)
    ]

-- a row for a new name comes
pub added-behind : (name : List ℕ) (rows after : List NameRow) (place depth more : ℕ) (row new : NameRow) → slice_get rows place ≡ Some row → bytes_eq name row.name ≡ false → IsReached name (take place rows) depth → EndsAt name rows place depth → IsSearchable rows → new ≡ last_row name more → after ≡ set rows place (followed row (turns_high name depth) (length rows)) ++ new ∷ []
    → IsSearchable after × ((other : List ℕ) → count_under after other ≡ count_under rows other + cond (bytes_eq other name) more 0)
added-behind name rows after place depth more row new there apart reached ends searchable made is =
    let front = take place rows in
    let back = drop (suc place) rows in
    let at = rows-at rows place row there in
    let high = turns_high name depth in
    let all : length rows ≡ length front + suc (length back) = ap length at.whole ∙ length-append front (row ∷ back) in
    let away = away-behind rows front back row place _ all at.long (ends.last row there apart) in
    let split : IsSearchable (front ++ row ∷ back) = subst (λ (all : List NameRow). IsSearchable all) at.whole searchable in
    let pushed = searchable-pushed front back row name depth (length rows) more reached apart away (omega (arith, all)) split in
    let is_after : after ≡ (front ++ followed row high (length rows) ∷ back) ++ last_row name more ∷ [] =
    is ∙ ap (λ (last : NameRow). set rows place (followed row high (length rows)) ++ last ∷ []) made
    ∙ ap (λ (linked : List NameRow). linked ++ last_row name more ∷ []) (at.changed (followed row high (length rows))) in (
      record { finds = λ name. rw is_after (pushed name).0 },
      λ other.
          ap (λ (all : List NameRow). count_under all other) is_after ∙ (pushed other).1
          ∙ ap (λ n. n + cond (bytes_eq other name) more 0) (ap (λ (all : List NameRow). count_under all other) (sym at.whole)),
    )

-- a row for the first name comes
pub added-first : (name : List ℕ) (rows after : List NameRow) (more : ℕ) (new : NameRow) → length rows ≡ 0 → new ≡ last_row name more → after ≡ rows ++ new ∷ []
    → IsSearchable after × ((other : List ℕ) → count_under after other ≡ count_under rows other + cond (bytes_eq other name) more 0)
added-first name [] after more new empty made is =
    let is_after : after ≡ last_row name more ∷ [] = is ∙ ap (λ (last : NameRow). last ∷ []) made in
    let alone = λ (other : List ℕ). sum_by-cons (row_count other) (last_row name more) [] in
    let found = λ (other : List ℕ). found-here other (last_row name more) [] 0 0 in
    (record { finds = λ other. rw is_after (omega (arith, alone other, found other)) }, λ other. rw is_after (omega (arith, alone other)))
added-first name (row ∷ rows) after more new empty made is = absurd (omega (arith, empty))
