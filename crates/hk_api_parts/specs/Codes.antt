-- The parts of the host's state as data.
use Rattle.std.specs.Coded.{Coded}
use Rattle.hk_api_parts.specs.declared.setting.Setting.{Setting}
use Rattle.hk_api_parts.specs.declared.place.Place.{Place}
use Rattle.hk_api_parts.specs.declared.chain_state.ChainState.{ChainState}
use Rattle.hk_api_parts.specs.declared.emitting.Emitting.{Emitting}
use Rattle.hk_api_parts.specs.contracts.setting.Setting as setting
use Rattle.hk_api_parts.specs.contracts.place.Place as place
use Rattle.hk_api_parts.specs.contracts.chain_state.ChainState as chain_state
use Rattle.hk_api_parts.specs.contracts.emitting.Emitting as emitting

abbrev pub coded_setting : Coded Setting
coded_setting = setting.the_row.coded

abbrev pub coded_place : Coded Place
coded_place = place.the_row.coded

abbrev pub coded_chain : Coded ChainState
coded_chain = chain_state.the_row.coded

abbrev pub coded_emitting : Coded Emitting
coded_emitting = emitting.the_row.coded
