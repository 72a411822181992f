-- Which values are valid: those that the codec of the messages calls good under the profile's ranges.
use Rattle.std.specs.Prelude.{Bool}
use Rattle.profile.specs.declared.Air.{Air}
use Rattle.message.specs.Messages.{message_c}
use Rattle.message.specs.declared.Value.{Value}

unfoldable pub valid_of : Air → Value → Bool
valid_of air v = (message_c air).ok v
