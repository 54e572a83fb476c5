-- A list in groups, each of what has one key.
use Rattle.std.specs.Prelude.{◌≡◌, Bool, true, not, List, [], ◌∷◌, filter, map}

-- a test of keys that passes exactly for one and the same
pub record IsExact (K : Type 0) (eq : K → K → Bool) : Type 0 where
  pub same : (x y : K) → eq x y ≡ true → x ≡ y
  pub own : (x : K) → eq x x ≡ true

-- each key once, where it stands first
abbrev pub keys_once : {K : Type 0} → (K → K → Bool) → List K → List K
keys_once eq [] = []
keys_once eq (k ∷ ks) = k ∷ filter (λ j. not (eq j k)) (keys_once eq ks)

-- the elements with a key
abbrev pub group_of : {K X : Type 0} → (K → K → Bool) → (X → K) → List X → K → List X
group_of eq key xs k = filter (λ x. eq k (key x)) xs

-- the value of each group, by its key, in the order in which the keys came
abbrev pub groups : {K X V : Type 0} → (K → K → Bool) → (X → K) → (List X → V) → List X
    → List (K × V)
groups eq key stated xs = map (λ k. (k, stated (group_of eq key xs k))) (keys_once eq (map key xs))
