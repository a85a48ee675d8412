pub mod Laws
mod Following
mod Standing
mod Small
mod Printing
mod Loop
mod Whole
mod WholeRun
