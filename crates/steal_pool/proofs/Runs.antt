-- Hands that were dealt, whatever they did since.
use Rattle.std.proofs.Common.{◌≡◌, ℕ, zero, suc, ◌<◌, List, [], ◌∷◌, ◌++◌, length, get_or, map, take, drop, refl, ap, sym, ◌∙◌, arith}
use Rattle.std.proofs.lemmas.List.{length-map}
use lib.ListN.{get_elem?}
use Rattle.steal_pool.specs.Hands.{HandView, fixed_of}
use Rattle.steal_pool.specs.Deals.{AreShares, share_from, IsDealt}
use Rattle.steal_pool.proofs.Places.{at-unmap}

-- dealt hands have their shares, whatever they did since
pub dealt-shares : (tasks : List ℕ) (n : ℕ) (hands now : List HandView) → IsDealt tasks n hands → map fixed_of now ≡ map fixed_of hands → AreShares tasks (map fixed_of now)
dealt-shares tasks n hands now d same i p e =
    let f = at-unmap fixed_of hands i p (ap (λ l. get_elem? l i) (sym same) ∙ e) in
    let s = d.start i f.0 f.1 in
    let len : length (map fixed_of now) ≡ n = ap length same ∙ length-map hands fixed_of ∙ d.count in
    sym (ap (λ z. z.share) f.2) ∙ s.its_share ∙ ap (λ m. share_from 0 m i tasks) (sym len)

-- hands that kept their fixeds, as they lie in the vector
pub same-fixeds : (xs ys : List HandView) → length ys ≡ length xs → ((k : ℕ) (d : HandView) → k < length xs → fixed_of (get_or ys k d) ≡ fixed_of (get_or xs k d)) → map fixed_of ys ≡ map fixed_of xs
same-fixeds [] [] e h = refl
same-fixeds [] (y ∷ ys) e h = absurd (omega arith)
same-fixeds (x ∷ xs) [] e h = absurd (omega arith)
same-fixeds (x ∷ xs) (y ∷ ys) e h =
    let a : fixed_of y ≡ fixed_of x = h 0 x (omega arith) in
    let b = same-fixeds xs ys (omega arith) (λ k d l. h (suc k) d (omega arith)) in
    ap (λ z. z ∷ map fixed_of ys) a ∙ ap (λ l. fixed_of x ∷ l) b

take-over : {A : Type 0} (n : ℕ) (ys rest : List A) → n ≡ length ys → rest ≡ [] → take n (ys ++ rest) ≡ ys
take-over n ys rest e r = ap (λ l. take n (ys ++ l)) r ∙ ap (λ k. take k (ys ++ [])) e ∙ whole ys where
  whole : {A : Type 0} (ys : List A) → take (length ys) (ys ++ []) ≡ ys
  whole [] = refl
  whole (y ∷ ys) = ap (λ l. y ∷ l) (whole ys)

drop-over : {A : Type 0} (n : ℕ) (xs : List A) → length xs ≡ n → drop n xs ≡ []
drop-over zero [] e = refl
drop-over zero (x ∷ xs) e = absurd (omega arith)
drop-over (suc n) [] e = refl
drop-over (suc n) (x ∷ xs) e = drop-over n xs (omega arith)

pub written-fixeds : (n : ℕ) (xs ys : List HandView) → n ≡ length xs → length ys ≡ length xs → ((k : ℕ) (d : HandView) → k < length xs → fixed_of (get_or ys k d) ≡ fixed_of (get_or xs k d))
    → map fixed_of (take n (ys ++ drop (length ys) xs)) ≡ map fixed_of xs
written-fixeds n xs ys e l h = ap (map fixed_of) (take-over n ys (drop (length ys) xs) (omega arith) (drop-over (length ys) xs (omega arith))) ∙ same-fixeds xs ys l h

pub slice-fixeds : (n : ℕ) (xs lent_out ys : List HandView) → lent_out ≡ xs → n ≡ length xs → length ys ≡ length lent_out → ((k : ℕ) (d : HandView) → k < length lent_out → fixed_of (get_or ys k d) ≡ fixed_of (get_or lent_out k d))
    → map fixed_of (take n (ys ++ drop (length ys) xs)) ≡ map fixed_of xs
slice-fixeds n xs lent_out ys is e l h =
    let same : length lent_out ≡ length xs = ap length is in
    written-fixeds n xs ys e (omega arith) (λ k d m. h k d (omega arith) ∙ ap (λ z. fixed_of (get_or z k d)) is)

-- the same, where they came out of a list and went into one
pub same-hands : (n : ℕ) (dealt xs lent_out ys now : List HandView) → xs ≡ dealt → lent_out ≡ xs → n ≡ length xs
    → length ys ≡ length lent_out → ((k : ℕ) (d : HandView) → k < length lent_out → fixed_of (get_or ys k d) ≡ fixed_of (get_or lent_out k d))
    → now ≡ take n (ys ++ drop (length ys) xs) → map fixed_of now ≡ map fixed_of dealt
same-hands n dealt xs lent_out ys now from is e l h to =
    ap (map fixed_of) to ∙ slice-fixeds n xs lent_out ys is e l h ∙ ap (map fixed_of) from

pub some-hand : (now dealt : List HandView) (n : ℕ) → map fixed_of now ≡ map fixed_of dealt → length dealt ≡ n → 0 < n → 0 < length now
some-hand now dealt n same count some_hand =
    let a = ap length same in
    let b = length-map now fixed_of in
    let d = length-map dealt fixed_of in
    omega arith
