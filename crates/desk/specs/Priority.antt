-- The order of those that wait: what question 6 asks of it, and where a request joins.
--     urgent_lead, UrgentLeadMeans     no urgent one follows one that is not: computed, and over all places
--     join_place, JoinsAtPlace         the place at which a request joins those in order, before the others behind it
--     JoinKeepsOrder                   those that wait are in order then too
--     UrgentJoins, OtherJoins          behind the urgent ones, or behind all
use Rattle.std.specs.Prelude.{ℕ, ◌<◌, ◌≡◌, ◌↔◌, Bool, true, false, not, cond, List, [], ◌∷◌, ◌++◌, length, get_or}
use Rattle.std.specs.List.{list_any, filter, insert}
use Rattle.desk.specs.Queueing.{join_queue}

-- 6: not "a row in which a waiting urgent record follows a waiting one that is not"
unfoldable pub urgent_lead : {A : Type 0} → (A → Bool) → List A → Bool
urgent_lead urgent [] = true
urgent_lead urgent (r ∷ rs) = cond (urgent r) (urgent_lead urgent rs) (not (list_any urgent rs))

-- record j is urgent and follows record i, which is not: just then they are not in order
abbrev pub UrgentLeadMeans : Type 1
UrgentLeadMeans = (A : Type 0) (urgent : A → Bool) (d : A) (rs : List A) → (urgent_lead urgent rs ≡ true)
    ↔ ((i j : ℕ) → i < j → j < length rs → urgent (get_or rs i d) ≡ false → urgent (get_or rs j d) ≡ true → ⊥)

-- "An arriving urgent request moves the waiting others up by a place.": behind the urgent ones, and any other behind all
abbrev pub join_place : {A : Type 0} → (A → Bool) → List A → A → ℕ
join_place urgent waiting r = cond (urgent r) (length (filter urgent waiting)) (length waiting)

abbrev pub JoinsAtPlace : Type 1
JoinsAtPlace = (A : Type 0) (urgent : A → Bool) (waiting : List A) (r : A) → urgent_lead urgent waiting ≡ true
    → join_queue urgent waiting r ≡ insert waiting (join_place urgent waiting r) r

abbrev pub JoinKeepsOrder : Type 1
JoinKeepsOrder = (A : Type 0) (urgent : A → Bool) (waiting : List A) (r : A) → urgent_lead urgent (join_queue urgent waiting r) ≡ true

abbrev pub UrgentJoins : Type 1
UrgentJoins = (A : Type 0) (urgent : A → Bool) (waiting : List A) (r : A) → urgent r ≡ true
    → join_queue urgent waiting r ≡ filter urgent waiting ++ (r ∷ filter (λ t. not (urgent t)) waiting)

abbrev pub OtherJoins : Type 1
OtherJoins = (A : Type 0) (urgent : A → Bool) (waiting : List A) (r : A) → urgent_lead urgent waiting ≡ true → urgent r ≡ false
    → join_queue urgent waiting r ≡ waiting ++ (r ∷ [])
