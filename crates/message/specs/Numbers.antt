-- The elements that are plain numbers: each has a place among a value's numbers. Where a message has two of one element, as REQUEST's two
-- areas, each has its own.
use Rattle.std.specs.Prelude.{ℕ, List, [], ◌∷◌, get_or}
use Rattle.message.specs.Elements as element

abbrev pub identifier : ℕ
identifier = 0

abbrev pub cause : ℕ
cause = 1

abbrev pub result : ℕ
result = 2

abbrev pub reason : ℕ
reason = 3

-- REQUEST's: the network, the areas and the basic services of the calling and of the called
abbrev pub mni : ℕ
mni = 4

abbrev pub calling_area : ℕ
calling_area = 5

abbrev pub called_area : ℕ
called_area = 6

abbrev pub calling_service : ℕ
calling_service = 7

abbrev pub called_service : ℕ
called_service = 8

-- INTERROGATE ACK's, beside the basic services of both
abbrev pub activation_type : ℕ
activation_type = 9

abbrev pub interception_type : ℕ
interception_type = 10

-- which element the number at each place is
unfoldable pub elements : List ℕ
elements =
    element.identifier ∷ element.cause ∷ element.result ∷ element.reason
    ∷ element.mni ∷ element.area ∷ element.area ∷ element.basic_service ∷ element.basic_service
    ∷ element.activation_type ∷ element.interception_type ∷ element.type_of_restriction ∷ []

unfoldable pub element_of : ℕ → ℕ
element_of k = get_or elements k 0

-- and how many bits it has
unfoldable pub widths : List ℕ
widths = 14 ∷ 5 ∷ 1 ∷ 7 ∷ 24 ∷ 4 ∷ 4 ∷ 2 ∷ 2 ∷ 1 ∷ 1 ∷ 4 ∷ []

unfoldable pub width_of : ℕ → ℕ
width_of k = get_or widths k 0
