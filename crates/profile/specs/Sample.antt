-- The sample profile: document 01, "Profile", its last paragraph; INTERROGATE ACK's reasons are 1 and 2 (document 02, viii).
use Rattle.std.specs.Prelude.{List, [], ◌∷◌}
use Rattle.profile.specs.Rules.{reserved, no_share}
use Rattle.profile.specs.declared.Kind.TheVariants as kind
use Rattle.profile.specs.declared.Meaning.{Meaning}
use Rattle.profile.specs.declared.Share.{Share}
use Rattle.profile.specs.declared.Profile.{Profile}

-- 0 none; 1, 2, 3 lists of that length; 15 first and last; others reserved
unfoldable pub sample_meanings : List Meaning
sample_meanings =
    record { kind = kind.Nobody; count = 0 }
    ∷ record { kind = kind.Listed; count = 1 }
    ∷ record { kind = kind.Listed; count = 2 }
    ∷ record { kind = kind.Listed; count = 3 }
    ∷ reserved ∷ reserved ∷ reserved ∷ reserved ∷ reserved ∷ reserved ∷ reserved ∷ reserved ∷ reserved ∷ reserved ∷ reserved
    ∷ record { kind = kind.FirstLast; count = 0 }
    ∷ []

-- two posts: reserved 2 and 4, ceilings 30 and 8
unfoldable pub sample_share : List Share
sample_share =
    record { reserved = 2; ceiling = 30 } ∷ record { reserved = 4; ceiling = 8 } ∷ no_share ∷ no_share ∷ no_share ∷ no_share ∷ no_share ∷ no_share ∷ []

unfoldable pub sample : Profile
sample =
    record {
      air = record { ss = 9; home = 0; meanings = sample_meanings; unknown = 1; other = 2; unrecorded = 1; elsewhere = 2 };
      shares = record { posts = 2; share = sample_share };
    }
