-- The number of each quantity.
use Rattle.std.specs.Prelude.{ℕ}
use Rattle.quantity.specs.declared.quantity.Quantity as quantity
use Rattle.quantity.specs.declared.quantity.Quantity.TheVariants.{Energy, EnergyJoule, Volume, Mass, OnTime, OperatingTime, Power, PowerJoule, VolumeFlow, VolumeFlowMinute, VolumeFlowSecond, MassFlow, FlowTemperature, ReturnTemperature, TemperatureDifference, ExternalTemperature, Pressure, Date, DateTime, HeatCostUnits, AveragingDuration, ActualityDuration, FabricationNumber, Identification, BusAddress, Extension, ManufacturerSpecific}

abbrev pub quantity_number : quantity.Quantity → ℕ
quantity_number Energy = 1
quantity_number EnergyJoule = 2
quantity_number Volume = 3
quantity_number Mass = 4
quantity_number OnTime = 5
quantity_number OperatingTime = 6
quantity_number Power = 7
quantity_number PowerJoule = 8
quantity_number VolumeFlow = 9
quantity_number VolumeFlowMinute = 10
quantity_number VolumeFlowSecond = 11
quantity_number MassFlow = 12
quantity_number FlowTemperature = 13
quantity_number ReturnTemperature = 14
quantity_number TemperatureDifference = 15
quantity_number ExternalTemperature = 16
quantity_number Pressure = 17
quantity_number Date = 18
quantity_number DateTime = 19
quantity_number HeatCostUnits = 20
quantity_number AveragingDuration = 21
quantity_number ActualityDuration = 22
quantity_number FabricationNumber = 23
quantity_number Identification = 24
quantity_number BusAddress = 25
quantity_number Extension = 26
quantity_number ManufacturerSpecific = 27
