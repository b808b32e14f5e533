mod MachRuns
mod LinearRuns
