mod Chains
mod LetsIn
