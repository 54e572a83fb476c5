-- The keys of a settings file, and the whole numbers that each may have.
use Rattle.std.specs.Prelude.{◌≡◌, ℕ, ◌^◌, ◌-◌, ◌%◌, ◌==◌, ◌≤◌, Bool, ◌&&◌, eqb, max, List, [], ◌∷◌}
use Rattle.std.specs.Prelude.{IsTrue, Option, bytes_eq, codes, find}
use Rattle.std.specs.List.{list_any}
use Rattle.base.specs.Levels.{is_from_to}
use Rattle.settings.specs.declared.key.Key.{Key}
use Rattle.settings.specs.declared.key.Key.TheVariants.{Harts, Memory, Stack, Tracking, Prediction}
use Rattle.settings.specs.declared.key.Key.TheVariants.{Report, Quantum, Budget, Line, Seed}
use Rattle.settings.specs.declared.key.Form.{Form}
use Rattle.settings.specs.declared.key.Form.TheVariants.{FromTo, Pages, LineSize}
use Rattle.settings.specs.declared.key.Rule.{Rule}

-- the keys, in the order in which they are judged
abbrev pub keys_in_order : List Key
keys_in_order = Harts ∷ Memory ∷ Stack ∷ Tracking ∷ Prediction ∷ Report ∷ Quantum ∷ Budget ∷ Line
    ∷ Seed ∷ []

-- a key as it is written in the file
abbrev pub key_name : Key → List ℕ
key_name Harts = codes "harts"
key_name Memory = codes "memory"
key_name Stack = codes "stack"
key_name Tracking = codes "tracking"
key_name Prediction = codes "prediction"
key_name Report = codes "report"
key_name Quantum = codes "quantum"
key_name Budget = codes "budget"
key_name Line = codes "line"
key_name Seed = codes "seed"

-- the key that is written so in the file
abbrev pub key_named : List ℕ → Option Key
key_named name = find (λ key. bytes_eq name (key_name key)) keys_in_order

-- the native line sizes
abbrev pub line_sizes : List ℕ
line_sizes = 32 ∷ 64 ∷ 128 ∷ 256 ∷ []

abbrev pub is_native_line : ℕ → Bool
is_native_line n = list_any (eqb n) line_sizes

-- a number of this form: from a least to a greatest, such a multiple of 4096, or a native line size
abbrev pub has_form : Form → ℕ → Bool
has_form (FromTo low high) n = is_from_to low high n
has_form (Pages low high) n = is_from_to low high n && (n % 4096 == 0)
has_form LineSize n = is_native_line n

pub record IsFromTo (low high n : ℕ) : Type 0 where
  pub least : low ≤ n
  pub greatest : n ≤ high

-- `has_form` as a fact
abbrev pub HasForm : Form → ℕ → Type 0
HasForm (FromTo low high) n = IsFromTo low high n
HasForm (Pages low high) n = IsFromTo low high n × (n % 4096 ≡ 0)
HasForm LineSize n = IsTrue (is_native_line n)

-- the form of a value, and the usual one
abbrev pub rule : Form → ℕ → Rule
rule form usual = record { form = form; usual = usual }

-- what a key may have beside a tracking threshold, sizes in bytes
abbrev pub rule_of : ℕ → Key → Rule
rule_of tracking Harts = rule (FromTo 1 256) 8
rule_of tracking Memory = rule (Pages (2 ^ 16) (2 ^ 26)) (2 ^ 24)
rule_of tracking Stack = rule (Pages (2 ^ 12) (2 ^ 20)) (2 ^ 16)
rule_of tracking Tracking = rule (FromTo 1 (2 ^ 32)) 16
rule_of tracking Prediction = rule (FromTo tracking (2 ^ 32)) (max 64 tracking)
rule_of tracking Report = rule (FromTo 1 (2 ^ 40)) 100
rule_of tracking Quantum = rule (FromTo 1 (2 ^ 20)) 100
rule_of tracking Budget = rule (FromTo 1 (2 ^ 36)) 100000000
rule_of tracking Line = rule LineSize 64
rule_of tracking Seed = rule (FromTo 0 (2 ^ 32 - 1)) 0

-- the form of a key's values beside a tracking threshold
abbrev pub form_of : ℕ → Key → Form
form_of tracking key = (rule_of tracking key).form
