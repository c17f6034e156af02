-- What holds of each element, and between the elements of a list.
use Rattle.std.proofs.Common.{◌≡◌, suc, Bool, true, List, [], ◌∷◌, ◌++◌, All, AllPairs, map, arith}
use Rattle.std.proofs.lemmas.Bool.{and_parts}
use Rattle.std.proofs.lemmas.List.Elements.{All-nil, All-cons, All-head, All-tail, All-append, All-map}
use Rattle.std.proofs.lemmas.List.Kept.{AllPairs-cons}
use Rattle.cells.specs.Lists.{all}
use Rattle.signs.specs.Lists.{pairwise}

-- pairs of a list by its first element

pub pairs_nil : {X : Type 0} (R : X → X → Type 0) → AllPairs R []
pairs_nil R i j d less h = absurd (omega arith)

pub pairs_head : {X : Type 0} (R : X → X → Type 0) (x : X) (xs : List X) → AllPairs R (x ∷ xs) → All (R x) xs
pairs_head R x xs h j d less = h 0 (suc j) d (omega arith) (omega arith)

pub pairs_tail : {X : Type 0} (R : X → X → Type 0) (x : X) (xs : List X) → AllPairs R (x ∷ xs) → AllPairs R xs
pairs_tail R x xs h i j d less k = h (suc i) (suc j) d (omega arith) (omega arith)

-- a computed test gives the rule at each element

pub all_true : {X : Type 0} (p : X → Bool) (P : X → Type 0) → ((x : X) → p x ≡ true → P x) → (xs : List X) → all p xs ≡ true → All P xs
all_true p P f [] h = All-nil P
all_true p P f (x ∷ xs) h = let k = and_parts (p x) (all p xs) h in All-cons P x xs (f x k.0) (all_true p P f xs k.1)

pub pairwise_true :
    {X : Type 0} (p : X → X → Bool) (R : X → X → Type 0) → ((x y : X) → p x y ≡ true → R x y) →
    (xs : List X) → pairwise p xs ≡ true → AllPairs R xs
pairwise_true p R f [] h = pairs_nil R
pairwise_true p R f (x ∷ xs) h =
    let k = and_parts (all (p x) xs) (pairwise p xs) h in
    AllPairs-cons R x xs (all_true (p x) (R x) (f x) xs k.0) (pairwise_true p R f xs k.1)

-- lists put together

pub pairs_append :
    {X : Type 0} (R : X → X → Type 0) (xs ys : List X) → AllPairs R xs → AllPairs R ys → All (λ x. All (R x) ys) xs → AllPairs R (xs ++ ys)
pairs_append R [] ys p q c = q
pairs_append R (x ∷ xs) ys p q c =
    AllPairs-cons R x (xs ++ ys)
    (All-append (R x) xs ys (pairs_head R x xs p) (All-head (λ z. All (R z) ys) x xs c))
    (pairs_append R xs ys (pairs_tail R x xs p) q (All-tail (λ z. All (R z) ys) x xs c))

pub pairs_map : {X Y : Type 0} (R : Y → Y → Type 0) (f : X → Y) (xs : List X) → AllPairs (λ x y. R (f x) (f y)) xs → AllPairs R (map f xs)
pairs_map R f [] p = pairs_nil R
pairs_map R f (x ∷ xs) p =
    AllPairs-cons R (f x) (map f xs) (All-map (R (f x)) f xs (pairs_head (λ y z. R (f y) (f z)) x xs p)) (pairs_map R f xs (pairs_tail (λ y z. R (f y) (f z)) x xs p))

pub all_swap : {X Y : Type 0} (R : X → Y → Type 0) (xs : List X) (ys : List Y) → All (λ y. All (λ x. R x y) xs) ys → All (λ x. All (R x) ys) xs
all_swap R xs ys h = λ i d k j e l. h j e l i d k

pub all_both : {X : Type 0} (P Q S : X → Type 0) → ((x : X) → P x → Q x → S x) → (xs : List X) → All P xs → All Q xs → All S xs
all_both P Q S f xs p q = λ i d k. f _ (p i d k) (q i d k)

pub all_front : {X : Type 0} (P : X → Type 0) (xs ys : List X) → All P (xs ++ ys) → All P xs
all_front P [] ys h = All-nil P
all_front P (x ∷ xs) ys h = All-cons P x xs (All-head P x (xs ++ ys) h) (all_front P xs ys (All-tail P x (xs ++ ys) h))
