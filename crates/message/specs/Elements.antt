-- The elements of the messages by number: what `number` and `take` are told, and what request (ii) will print.
use Rattle.std.specs.Prelude.{ℕ}

abbrev pub ss_type : ℕ
ss_type = 1

abbrev pub pdu_type : ℕ
pdu_type = 2

abbrev pub range : ℕ
range = 3

abbrev pub kind : ℕ
kind = 4

abbrev pub ssi : ℕ
ssi = 5

abbrev pub extension : ℕ
extension = 6

abbrev pub mask_present : ℕ
mask_present = 7

abbrev pub mask : ℕ
mask = 8

abbrev pub result : ℕ
result = 9

abbrev pub reason : ℕ
reason = 10

abbrev pub cause : ℕ
cause = 11

abbrev pub identifier : ℕ
identifier = 12

abbrev pub o_bit : ℕ
o_bit = 13

abbrev pub p_bit : ℕ
p_bit = 14

abbrev pub mni : ℕ
mni = 15

abbrev pub area : ℕ
area = 16

abbrev pub basic_service : ℕ
basic_service = 17

abbrev pub activation_type : ℕ
activation_type = 18

abbrev pub interception_type : ℕ
interception_type = 19

abbrev pub type_of_restriction : ℕ
type_of_restriction = 20
