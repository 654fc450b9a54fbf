-- The settings of `convert`, as contracts see them.
use Rattle.tool_words.specs.Convert.{ConvertAsked}
use Rattle.tool_words.specs.declared.settings.ConvertSettings.{ConvertSettings}

abbrev pub seen : ConvertSettings → ConvertAsked
seen s = record { from = s.from; to = s.to; input = s.input.now; output = s.output.now }
