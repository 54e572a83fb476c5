-- The command `caches`: what its words ask for.
use Rattle.std.specs.Prelude.{ℕ, if◌then◌else◌, List, [], ◌∷◌, Option, Some, None, codes}
use Rattle.std.specs.Prelude.{option_map, option_and_then}
use Rattle.base.specs.Shapes.{CacheShape, is_shape}
use Rattle.clap.specs.Words.{App, Row, Text, first_of}
use Rattle.command_line.specs.Apps.{plain_app, with_option, with_word}
use Rattle.command_line.specs.Asked.{asked}
use Rattle.command_line.specs.Numbers.{number_of}
use Rattle.command_line.specs.declared.caches.CachesOptions.{CachesOptions}

abbrev pub caches_usage : Text
caches_usage = codes "usage: predator caches TRACE --size N --sets S --ways W\n"

-- count what is left of a trace's invalidations in private caches of a shape
pub record CachesDemand : Type 0 where
  pub trace : Text
  pub shape : CacheShape

abbrev pub caches_app : App
caches_app =
    with_option (with_option (with_option (with_word (plain_app (codes "caches"))
    (codes "trace")) (codes "size")) (codes "sets")) (codes "ways")

-- a shape, where it is one that is allowed
abbrev pub allowed_shape : CacheShape → Option CacheShape
allowed_shape k = if is_shape k then Some k else None

abbrev pub shape_at : ℕ → ℕ → ℕ → Option CacheShape
shape_at size sets ways = allowed_shape (record { size = size; sets = sets; ways = ways })

-- the shape of three numbers, all of which are given
abbrev pub given_shape : Option Text → Option Text → Option Text → Option CacheShape
given_shape size sets ways =
    option_and_then (λ n. option_and_then (λ s. option_and_then (shape_at n s)
    (option_and_then number_of ways)) (option_and_then number_of sets))
    (option_and_then number_of size)

-- what its values ask for, unless its shape is none that is allowed
abbrev pub caches_of : List Row → Option CachesDemand
caches_of rows =
    option_and_then (λ trace. option_map (λ k. record { trace = trace; shape = k })
    (given_shape (first_of (codes "size") rows) (first_of (codes "sets") rows)
    (first_of (codes "ways") rows)))
    (first_of (codes "trace") rows)

abbrev pub asked_of_caches : List Text → Option CachesDemand
asked_of_caches words = asked caches_app caches_of words

-- the files that are read, and those that are written
abbrev pub caches_inputs : CachesDemand → List Text
caches_inputs demand = demand.trace ∷ []

abbrev pub caches_outputs : CachesDemand → List Text
caches_outputs demand = []

-- what the code's options ask for
abbrev pub caches_meaning : CachesOptions → CachesDemand
caches_meaning options = record { trace = options.trace.now; shape = options.shape }
